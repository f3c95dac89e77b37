use Rattle.std.proofs.Common.{◌∙◌, ap}
use Rattle.sec_base.specs.MemoryFiles.{MemoryFilesView, content_of}
use Rattle.sec_base.proofs.Contents.{added_file, other_file}
use Rattle.sec_base.proofs.memory_files.MemoryFiles.add.Goals as goal

pub returns-clause-content : goal.returns-clause-content
returns-clause-content c =
    added_file c.self.inside.files.items _ _ c.args.name.now c.args.bytes.now c.in_ok-push.ensures.items c.in_ok-file.ensures

pub returns-clause-others : goal.returns-clause-others
returns-clause-others c other differs =
    other_file c.self.inside.files.items _ _ c.args.name.now c.args.bytes.now other c.in_ok-push.ensures.items c.in_ok-file.ensures differs
    ∙ ap (λ (seen : MemoryFilesView). content_of seen.files other) c.self.view_is
