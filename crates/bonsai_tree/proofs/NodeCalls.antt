-- One read, one write, and a change of copies, as what calls make of the tree.
use Rattle.std.proofs.Common.{◌≡◌, ◌≢◌, ◌⊎◌, inl, inr, ℕ, ◌+◌, ◌/◌, ◌<◌, ◌≤◌, false, max, List, [], ◌∷◌, ◌++◌, length, Option, Some, None, Result, refl, ap, sym, ◌∙◌, subst, arith, ◌-◌}
use Rattle.std.specs.Result.{result_err}
use Rattle.std.proofs.lemmas.Bool.{cases_lt}
use Rattle.sec_base.specs.Evidence.{evidence_place}
use Rattle.sec_base.specs.Geometry.{GeometryView, IsNode, arity, child}
use Rattle.sec_base.specs.LastMessage.{last_node}
use Rattle.sec_base.specs.declared.counter.Counter.{Counter}
use Rattle.sec_base.specs.declared.evidence.Evidence.{Evidence}
use Rattle.sec_base.specs.declared.message.Message.{Message}
use Rattle.sec_base.specs.declared.message.Message.TheVariants.{Node}
use Rattle.sec_base.specs.declared.place.Place.{Place}
use Rattle.sec_base.specs.declared.place.Place.TheVariants.{Node as node_place}
use Rattle.sec_base.specs.declared.stop.MemStop.{MemStop}
use Rattle.sec_base.specs.declared.stop.MemStop.TheVariants.{Tampered, Spent, NoMemory}
use Rattle.sec_base.specs.Tag.{IsTag}
use Rattle.sec_base.proofs.Results.{stop_is, was_none}
use Rattle.bus_model.specs.BusHistory.{BusHistory}
use Rattle.tag_engine.specs.TagEngine.{TagEngineView, tags_of, with_room}
use Rattle.checked_bus.specs.Steps.{IsAccounted, unwritten_in}
use Rattle.checked_bus.proofs.TaggedWrites.{WritesOnce}
use Rattle.checked_bus.proofs.CheckedReads.{ended_accounted}
use Rattle.bonsai_tree.specs.KeptRead.{IsKeptNode, ReadsKept}
use Rattle.bonsai_tree.specs.Climb.{Climbs}
use Rattle.bonsai_tree.specs.Node.{CachedNode, block_or_zeros, current_of, level_blocks, tag_in_slot, tag_of_last}
use Rattle.bonsai_tree.specs.NodeCache.{AreNodeCaches, NodeCacheView, OtherLevels, level_cache, node_way}
use Rattle.bonsai_tree.specs.Tree.{HoldsTree, IsNodeFrom, IsTree, NodeCame, NodesAreMade, NodesHoldLast, SlotsAreTags, TreeView, WasReadUp, above, cached_node, current_block, kept_tag}
use Rattle.bonsai_tree.specs.Writing.{WritesNodes}
use Rattle.bonsai_tree.proofs.Climbs.{above_one, climbs_recached, read_up_held}
use Rattle.bonsai_tree.proofs.MadeSlots.{current_slots, slots_more}
use Rattle.bonsai_tree.proofs.LevelBlocks.{blocks_other}
use Rattle.bonsai_tree.proofs.Nodes.{SameNode, above_none, is_kept, same_or_not, same_tags}
use Rattle.bonsai_tree.proofs.NodeWrites.{NodeWritten, is_put}
use Rattle.bonsai_tree.proofs.Puts.{IsPut, PutsTag, tree_put, tree_recached}
use Rattle.bonsai_tree.proofs.Views.{all_as, geometry_as, others_as, root_as, tree_of}

here_from : (geometry : GeometryView) (level index : ℕ) (place : Place) → IsNode geometry level index → place ≡ node_place level index → IsNodeFrom geometry level place
here_from geometry level index place node is = record { level = level; index = index; node = node; above = omega arith; place_is = is }

module _ {T : Type 0} (d n : T → List ℕ → List ℕ) where
  -- all copies are the same
  pub climbs_touched : (level : ℕ) (tree : TreeView) (root : List ℕ) (nodes nodes' : NodeCacheView) (history : BusHistory) (engine : TagEngineView T) →
      tree_of root nodes ≡ tree → nodes'.geometry ≡ nodes.geometry → AreNodeCaches nodes'.geometry nodes'.caches → OtherLevels level nodes.caches nodes'.caches →
      ((other at : ℕ) → node_way nodes'.caches other at ≡ node_way nodes.caches other at) →
      Climbs (tags_of d n) level tree history engine (tree_of root nodes') history engine None
  climbs_touched level tree root nodes nodes' history engine view_is geometry are others ways =
      let touched : TreeView = tree_of root nodes' in
      let same : (other at : ℕ) → cached_node touched other at ≡ cached_node tree other at = all_as root nodes nodes' view_is ways in
      let geometry_is : touched.geometry ≡ tree.geometry = geometry_as root nodes nodes' view_is geometry in
      let root_is : touched.root ≡ tree.root = root_as root nodes nodes' view_is in
      climbs_recached d n geometry_is root_is (λ were. are)
      (λ other low. others_as root nodes nodes' view_is level others other (λ (e : other ≡ level). absurd (omega (arith, e, low))))
      (λ was. record {
        fits = λ quiet.
            tree_recached (tags_of d n engine) tree touched engine.made history.written (was.fits quiet) geometry_is root_is
            (λ other at node. ap (λ (o : Option CachedNode). current_of o (last_node other at engine.made)) (same other at))
            (λ other at copy node found unchanged. (was.fits quiet).clean other at copy node (sym (same other at) ∙ found) unchanged);
      }) (λ other at copied none. copied (same other at ∙ none))

  -- a copy is gone that was the node's last block
  pub climbs_dropped : {level : ℕ} (index : ℕ) {tree tree' : TreeView} {history : BusHistory} {engine : TagEngineView T} (copy : CachedNode) → tree'.geometry ≡ tree.geometry → tree'.root ≡ tree.root → AreNodeCaches tree'.geometry tree'.caches → OtherLevels level tree.caches tree'.caches →
      cached_node tree level index ≡ Some copy → cached_node tree' level index ≡ None →
      ((other at : ℕ) → ¬ (SameNode level index other at) → cached_node tree' other at ≡ cached_node tree other at) →
      (HoldsTree (tags_of d n) tree history engine → engine.evidence ≡ None → copy.block ≡ block_or_zeros (last_node level index engine.made)) →
      Climbs (tags_of d n) level tree history engine tree' history engine None
  climbs_dropped {level} index {tree} {tree'} {history} {engine} copy geometry root nodes others held gone same is_last =
      climbs_recached d n geometry root (λ are. nodes)
      (λ other low. others other (λ (e : other ≡ level). absurd (omega (arith, e, low)))) (λ was. record {
        fits = λ quiet.
            tree_recached (tags_of d n engine) tree tree' engine.made history.written (was.fits quiet) geometry root
            (λ other at node. elim (same_or_not level index other at) [
              | inr apart ↦ ap (λ (o : Option CachedNode). current_of o (last_node other at engine.made)) (same other at apart)
              | inl here ↦
                  rw (here.0, here.1) (ap (λ (o : Option CachedNode). current_of o (last_node level index engine.made)) gone ∙ sym (is_last was quiet)
                  ∙ sym (ap (λ (o : Option CachedNode). current_of o (last_node level index engine.made)) held))
            ]) (λ other at kept node found unchanged. elim (same_or_not level index other at) [
              | inr apart ↦ (was.fits quiet).clean other at kept node (sym (same other at apart) ∙ found) unchanged
              | inl here ↦
                  let none : None ≡ Some kept =
                  sym (ap (λ (k : ℕ). cached_node tree' k at) here.0 ∙ ap (λ (i : ℕ). cached_node tree' level i) here.1 ∙ gone) ∙ found in
                  absurd (cc)
            ]);
      }) (λ other at copied none. elim (same_or_not level index other at) [
        | inr apart ↦ copied (same other at apart ∙ none)
        | inl here ↦ copied (ap (λ (k : ℕ). cached_node tree' k at) here.0 ∙ ap (λ (i : ℕ). cached_node tree' level i) here.1 ∙ gone)
      ])

  -- A read of a node

  module _ (tree : TreeView) {level index : ℕ} {tag : List ℕ} {old new : BusHistory} {engine engine' : TagEngineView T} {result : Result (List ℕ) MemStop}
      (node : IsNode tree.geometry level index) (is_tag : tag ≡ kept_tag tree engine.made level index)
      (read : ReadsKept (tags_of d n) level index tag old engine new engine' result) where
    tags_same : tags_of d n engine' ≡ tags_of d n engine
    tags_same = same_tags d n old new engine engine' read.moves

    pub kept_node : HoldsTree (tags_of d n) tree old engine → engine.evidence ≡ None → IsKeptNode (tags_of d n engine) engine.made old.written level index tag
    kept_node holds quiet =
        subst (λ (t : List ℕ). IsKeptNode (tags_of d n engine) engine.made old.written level index t) (sym is_tag)
        (is_kept (tags_of d n engine) tree engine.made old.written level index node (holds.fits quiet))

    quiet_before : engine'.evidence ≡ None → engine.evidence ≡ None
    quiet_before quiet = was_none engine.evidence engine'.evidence read.moves.evidence quiet

    read_fits : HoldsTree (tags_of d n) tree old engine → engine'.evidence ≡ None → IsTree (tags_of d n engine') tree engine'.made new.written
    read_fits holds quiet =
        subst (λ (t : Message → List ℕ). IsTree t tree engine'.made new.written) (sym tags_same)
        (subst (λ (m : List Message). IsTree (tags_of d n engine) tree m new.written) (sym read.made)
        (subst (λ (w : Place → List ℕ). IsTree (tags_of d n engine) tree engine.made w) (sym read.written) (holds.fits (quiet_before quiet))))

    pub climbs_read : Climbs (tags_of d n) level tree old engine tree new engine' (result_err result)
    climbs_read = record {
      moves = read.moves;
      lines = read.lines;
      geometry = refl;
      root = refl;
      nodes = λ are. are;
      copies = λ other low. refl;
      last = λ other at low. ap (λ (m : List Message). last_node other at m) read.made;
      blocks = λ other low. ap (λ (m : List Message). level_blocks other m) read.made;
      written = λ other at low. ap (λ (w : Place → List ℕ). w (node_place other at)) read.written;
      reads = λ other at low. read.alone other at (λ same. omega (arith, same.0, low));
      holds = λ holds going. record { fits = λ quiet. read_fits holds quiet };
      honest = λ holds used was. read.honest used (λ quiet. kept_node holds quiet) was;
      lied = λ holds quiet place is. (read.tampered place (stop_is result (Tampered place) is)).1 (kept_node holds quiet);
      shown = λ holds quiet some. read.shown (kept_node holds quiet) quiet some;
      tampered = λ place is. here_from tree.geometry level index place node (read.tampered place (stop_is result (Tampered place) is)).0;
      found = λ quiet evidence is. here_from tree.geometry level index (evidence_place evidence) node (read.found evidence quiet is);
      unspent = λ spent is. read.unspent spent (stop_is result (Spent spent) is);
      room = omega (arith, read.room);
      no_rise = omega (arith, read.room);
      made_blocks = λ was.
          subst (λ (m : List Message). NodesAreMade tree.geometry m new.written) (sym read.made)
          (subst (λ (w : Place → List ℕ). NodesAreMade tree.geometry engine.made w) (sym read.written) was);
      last_blocks = λ remembered was.
          subst (λ (m : List Message). NodesHoldLast tree.geometry m new.written) (sym read.made)
          (subst (λ (w : Place → List ℕ). NodesHoldLast tree.geometry engine.made w) (sym read.written) was);
      slots = λ holds quiet tagged. subst (λ (m : List Message). SlotsAreTags (tags_of d n engine) tree.geometry m) (sym read.made) tagged;
      read = λ holds quiet other at held. read_up_held tree engine.made other at old new held;
      unread = λ holds quiet other at none.
          read.unread (kept_node holds (quiet_before quiet)) other at (ap (λ (m : List Message). last_node other at m) (sym read.made) ∙ none);
    }

    -- and its block is kept as a copy
    module _ (tree' : TreeView) (block : List ℕ) (is_ok : result_err result ≡ None) (geometry : tree'.geometry ≡ tree.geometry) (root : tree'.root ≡ tree.root)
        (nodes : AreNodeCaches tree'.geometry tree'.caches) (others : OtherLevels level tree.caches tree'.caches) (absent : cached_node tree level index ≡ None)
        (put : cached_node tree' level index ≡ Some (record { block = block; changed = false }))
        (same : (other at : ℕ) → ¬ (SameNode level index other at) → cached_node tree' other at ≡ cached_node tree other at)
        (parent : level < tree.geometry.levels → cached_node tree (level + 1) (index / arity tree.geometry) ≢ None)
        (known : IsKeptNode (tags_of d n engine) engine.made old.written level index tag → engine'.evidence ≡ None →
        block ≡ block_or_zeros (last_node level index engine.made)) where
      block_last : HoldsTree (tags_of d n) tree old engine → engine'.evidence ≡ None → block_or_zeros (last_node level index engine'.made) ≡ block
      block_last holds quiet =
          ap (λ (m : List Message). block_or_zeros (last_node level index m)) read.made
          ∙ sym (known (kept_node holds (quiet_before quiet)) quiet)

      put_fits : HoldsTree (tags_of d n) tree old engine → engine'.evidence ≡ None → IsTree (tags_of d n engine') tree' engine'.made new.written
      put_fits holds quiet =
          let fits : IsTree (tags_of d n engine') tree engine'.made new.written = read_fits holds quiet in
          tree_recached (tags_of d n engine') tree tree' engine'.made new.written fits geometry root
          (λ other at inside. elim (same_or_not level index other at) [
            | inr apart ↦ ap (λ (o : Option CachedNode). current_of o (last_node other at engine'.made)) (same other at apart)
            | inl here ↦
                rw (here.0, here.1) (ap (λ (o : Option CachedNode). current_of o (last_node level index engine'.made)) put
                ∙ sym (block_last holds quiet)
                ∙ sym (ap (λ (o : Option CachedNode). current_of o (last_node level index engine'.made)) absent))
          ]) (λ other at copy inside found unchanged. elim (same_or_not level index other at) [
            | inr apart ↦ fits.clean other at copy inside (sym (same other at apart) ∙ found) unchanged
            | inl here ↦
                let is : Some (record { block = block; changed = false }) ≡ Some copy =
                sym (ap (λ (k : ℕ). cached_node tree' k at) here.0 ∙ ap (λ (i : ℕ). cached_node tree' level i) here.1 ∙ put) ∙ found in
                let same_block : copy.block ≡ block = cc in
                same_block ∙ sym (block_last holds quiet)
                ∙ sym (ap (λ (k : ℕ). block_or_zeros (last_node k at engine'.made)) here.0 ∙ ap (λ (i : ℕ). block_or_zeros (last_node level i engine'.made)) here.1)
          ])

      read_here : HoldsTree (tags_of d n) tree old engine → engine'.evidence ≡ None → WasReadUp tree engine.made level index old new
      read_here holds quiet = record {
        rose = λ more inside none. elim (cases_lt 0 more) [
          | inl some ↦
              let first : cached_node tree (level + 1) (index / arity tree.geometry) ≡ None =
              ap (λ (i : ℕ). cached_node tree (level + 1) i) (sym (above_one tree.geometry index)) ∙ none 1 (omega arith) in
              absurd (parent (omega (arith, inside, some)) first)
          | inr zero_more ↦
              let going : result_err result ≢ Some NoMemory = λ (e : result_err result ≡ Some NoMemory). cc in
              let came : NodeCame engine.made level index old new = read.came (kept_node holds (quiet_before quiet)) going in
              let level_is : level ≡ level + more = omega (arith, zero_more) in
              let none_more_is : 0 ≡ more = omega (arith, zero_more) in
              let index_is : index ≡ above tree.geometry index more =
              subst (λ (k : ℕ). index ≡ above tree.geometry index k) none_more_is (sym (above_none tree.geometry index)) in
              subst (λ (k : ℕ). NodeCame engine.made k (above tree.geometry index more) old new) level_is
              (subst (λ (i : ℕ). NodeCame engine.made level i old new) index_is came)
        ];
      }

      pub climbs_put : Climbs (tags_of d n) level tree old engine tree' new engine' None
      climbs_put =
          let climbs : Climbs (tags_of d n) level tree old engine tree new engine' None =
          subst (λ (s : Option MemStop). Climbs (tags_of d n) level tree old engine tree new engine' s) is_ok climbs_read in
          record {
            moves = climbs.moves;
            lines = climbs.lines;
            geometry = geometry;
            root = root;
            nodes = λ are. nodes;
            copies = λ other low. others other (λ (e : other ≡ level). absurd (omega (arith, e, low)));
            last = climbs.last;
            blocks = climbs.blocks;
            written = climbs.written;
            reads = climbs.reads;
            holds = λ holds going. record { fits = λ quiet. put_fits holds quiet };
            honest = climbs.honest;
            lied = climbs.lied;
            shown = climbs.shown;
            tampered = climbs.tampered;
            found = climbs.found;
            unspent = climbs.unspent;
            room = climbs.room;
            no_rise = climbs.no_rise;
            made_blocks = climbs.made_blocks;
            last_blocks = climbs.last_blocks;
            slots = climbs.slots;
            read = λ holds quiet other at held. elim (same_or_not level index other at) [
              | inr apart ↦ read_up_held tree engine.made other at old new (λ none. held (same other at apart ∙ none))
              | inl here ↦
                  rw (here.0, here.1) (read_here holds quiet)
            ];
            unread = climbs.unread;
          }

  -- Writes of a node

  -- where room was taken for its message first
  pub writes_taken : {geometry : GeometryView} {old new : BusHistory} {engine taken engine' : TagEngineView T} {unwritten : ℕ} → taken ≡ with_room 1 engine →
      WritesNodes (tags_of d n) geometry old taken new engine' unwritten → WritesNodes (tags_of d n) geometry old engine new engine' unwritten
  writes_taken {geometry} {old} {new} {engine} {taken} {engine'} {unwritten} taken_is wrote_taken =
      let wrote : WritesNodes (tags_of d n) geometry old (with_room 1 engine) new engine' unwritten =
      subst (λ (e : TagEngineView T). WritesNodes (tags_of d n) geometry old e new engine' unwritten) taken_is wrote_taken in
      record {
        moves = record {
          bus_geometry = wrote.moves.bus_geometry;
          geometry = wrote.moves.geometry;
          tagger = wrote.moves.tagger;
          more = wrote.moves.more;
          made = wrote.moves.made;
          evidence = wrote.moves.evidence;
          reads = wrote.moves.reads;
          accesses = wrote.moves.accesses;
          lies = wrote.moves.lies;
        };
        lines = wrote.lines;
        evidence = wrote.evidence;
        room = let room : max engine.room 1 ≤ engine'.room + length wrote.moves.more = wrote.room in omega (arith, room);
        reads = wrote.reads;
        made_blocks = wrote.made_blocks;
        last_blocks = wrote.last_blocks;
        honest = wrote.honest;
      }

  -- the first evidence stays, and it is none where there was none
  no_evidence : (engine engine' : TagEngineView T) (evidence : Evidence) → engine'.evidence ≡ engine.evidence → engine.evidence ≡ None → engine'.evidence ≡ Some evidence → ⊥
  no_evidence engine engine' evidence same quiet is = absurd (cc)

  -- how a write stops
  abbrev pub CanStop : Option MemStop → Type 0
  CanStop stop = (stop ≡ None) ⊎ (stop ≡ Some NoMemory)

  not_tampered : (stop : Option MemStop) (place : Place) → CanStop stop → stop ≡ Some (Tampered place) → ⊥
  not_tampered stop place (inl going) is = absurd (cc)
  not_tampered stop place (inr want) is = absurd (cc)

  not_spent : (stop : Option MemStop) (page : ℕ) → CanStop stop → stop ≡ Some (Spent page) → ⊥
  not_spent stop page (inl going) is = absurd (cc)
  not_spent stop page (inr want) is = absurd (cc)

  accounted_so : (stop : Option MemStop) (tag_of : Message → List ℕ) (used : List (ℕ × Counter)) (made : List Message) (history : BusHistory) (evidence : Option Evidence) →
      CanStop stop → IsAccounted tag_of used made history None evidence → IsAccounted tag_of used made history stop evidence
  accounted_so stop tag_of used made history evidence (inl going) was = subst (λ (s : Option MemStop). IsAccounted tag_of used made history s evidence) (sym going) was
  accounted_so stop tag_of used made history evidence (inr want) was =
      subst (λ (s : Option MemStop). IsAccounted tag_of used made history s evidence) (sym want)
      (ended_accounted tag_of used made history NoMemory evidence (λ place is. cc) was)

  none_unwritten : (stop : Option MemStop) → CanStop stop → stop ≢ Some NoMemory → unwritten_in stop ≡ 0
  none_unwritten stop (inl going) remembered = ap unwritten_in going
  none_unwritten stop (inr want) remembered = absurd (remembered want)

  pub climbs_wrote : {tree tree' : TreeView} {level : ℕ} {old new : BusHistory} {engine engine' : TagEngineView T} {stop : Option MemStop} → CanStop stop →
      WritesNodes (tags_of d n) tree.geometry old engine new engine' (unwritten_in stop) → engine'.room ≤ engine.room → tree'.geometry ≡ tree.geometry → tree'.root ≡ tree.root →
      (AreNodeCaches tree.geometry tree.caches → AreNodeCaches tree'.geometry tree'.caches) →
      ((other : ℕ) → other < level → level_cache tree'.caches other ≡ level_cache tree.caches other) →
      ((other at : ℕ) → other < level → last_node other at engine'.made ≡ last_node other at engine.made) →
      ((other : ℕ) → other < level → level_blocks other engine'.made ≡ level_blocks other engine.made) →
      ((other at : ℕ) → other < level → new.written (node_place other at) ≡ old.written (node_place other at)) →
      (HoldsTree (tags_of d n) tree old engine → stop ≢ Some NoMemory → HoldsTree (tags_of d n) tree' new engine') →
      (HoldsTree (tags_of d n) tree old engine → engine'.evidence ≡ None → SlotsAreTags (tags_of d n engine) tree.geometry engine.made →
      SlotsAreTags (tags_of d n engine) tree.geometry engine'.made) →
      ((other at : ℕ) → cached_node tree' other at ≢ None → cached_node tree other at ≢ None) →
      Climbs (tags_of d n) level tree old engine tree' new engine' stop
  climbs_wrote {tree} {tree'} {level} {old} {new} {engine} {engine'} {stop} can wrote no_rise geometry root nodes copies last blocks written holds slots held = record {
    moves = wrote.moves;
    lines = wrote.lines;
    geometry = geometry;
    root = root;
    nodes = nodes;
    copies = copies;
    last = last;
    blocks = blocks;
    written = written;
    reads = λ other at low. ap (λ (reads : Place → ℕ). reads (node_place other at)) wrote.reads;
    holds = holds;
    honest = λ was used accounted.
        let tags : tags_of d n engine' ≡ tags_of d n engine = same_tags d n old new engine engine' wrote.moves in
        accounted_so stop (tags_of d n engine) used engine'.made new engine'.evidence can (wrote.honest used used accounted);
    lied = λ was quiet place is. absurd (not_tampered stop place can is);
    shown = λ was quiet some. absurd (some (wrote.evidence ∙ quiet));
    tampered = λ place is. absurd (not_tampered stop place can is);
    found = λ quiet evidence is. absurd (no_evidence engine engine' evidence wrote.evidence quiet is);
    unspent = λ spent is. not_spent stop spent can is;
    room = wrote.room;
    no_rise = no_rise;
    made_blocks = wrote.made_blocks;
    last_blocks = λ remembered was. wrote.last_blocks (none_unwritten stop can remembered) was;
    slots = slots;
    read = λ was quiet other at copied. read_up_held tree engine.made other at old new (held other at copied);
    unread = λ was quiet other at none. ap (λ (reads : Place → ℕ). reads (node_place other at)) wrote.reads;
  }

  -- a node was written whose parent has a copy, and its tag put into that
  module _ (tree tree' : TreeView) {level index : ℕ} {block : List ℕ} (tag : List ℕ) {old new : BusHistory} (engine : TagEngineView T)
      {taken engine' : TagEngineView T} (taken_is : taken ≡ with_room 1 engine) (write : NodeWritten (tags_of d n) level index block old taken new engine') where
    made_before : taken.made ≡ engine.made
    made_before = ap (λ (e : TagEngineView T). e.made) taken_is

    pub last_apart : (other at : ℕ) → ¬ (SameNode level index other at) → last_node other at engine'.made ≡ last_node other at engine.made
    last_apart other at apart =
        (write.others (node_place other at) (λ (same : node_place other at ≡ node_place level index).
        let level_same : other ≡ level = cc in let index_same : at ≡ index = cc in apart (level_same, index_same))).last
        ∙ ap (λ (m : List Message). last_node other at m) made_before

    pub made_one : engine'.made ≡ engine.made ++ Node level index block ∷ []
    made_one = ap (λ (e : TagEngineView T). e.made) write.made ∙ ap (λ (m : List Message). m ++ Node level index block ∷ []) made_before

    pub no_rise_one : engine'.room ≤ engine.room
    no_rise_one =
        let after : engine'.room ≡ taken.room - 1 = ap (λ (e : TagEngineView T). e.room) write.made in
        let before : taken.room ≡ max engine.room 1 = ap (λ (e : TagEngineView T). e.room) taken_is in
        omega (arith, after, before)

    pub blocks_apart : (other : ℕ) → level ≢ other → level_blocks other engine'.made ≡ level_blocks other engine.made
    blocks_apart other apart = ap (λ (m : List Message). level_blocks other m) made_one ∙ blocks_other other level index block engine.made apart

    pub written_apart : (other at : ℕ) → ¬ (SameNode level index other at) → new.written (node_place other at) ≡ old.written (node_place other at)
    written_apart other at apart =
        (write.others (node_place other at) (λ (same : node_place other at ≡ node_place level index).
        let level_same : other ≡ level = cc in let index_same : at ≡ index = cc in apart (level_same, index_same))).written

    -- each slot of a block that is the node's current one has the tag of a message
    pub put_slots : IsNode tree.geometry level index → (level ≡ 0) ⊎ (current_block tree engine.made level index ≡ block) →
        HoldsTree (tags_of d n) tree old engine → engine'.evidence ≡ None → SlotsAreTags (tags_of d n engine) tree.geometry engine.made →
        SlotsAreTags (tags_of d n engine) tree.geometry engine'.made
    put_slots node is_current_block holds quiet tagged =
        let same_evidence : engine'.evidence ≡ engine.evidence =
        ap (λ (e : TagEngineView T). e.evidence) write.made ∙ ap (λ (e : TagEngineView T). e.evidence) taken_is in
        let was : engine.evidence ≡ None = sym same_evidence ∙ quiet in
        let kept_of : ℕ → ℕ → List ℕ = λ lower at. tag_of_last (tags_of d n engine) lower at (last_node lower at engine.made) in
        let made_is : engine'.made ≡ engine.made ++ Node level index block ∷ [] =
        ap (λ (e : TagEngineView T). e.made) write.made ∙ ap (λ (m : List Message). m ++ Node level index block ∷ []) made_before in
        subst (λ (m : List Message). SlotsAreTags (tags_of d n engine) tree.geometry m) (sym made_is)
        (slots_more (tags_of d n engine) tree.geometry engine.made level index block tagged
        (λ lower at above inside. elim is_current_block [
          | inl first ↦ absurd (omega (arith, first, above))
          | inr is ↦
              subst (λ (b : List ℕ). tag_in_slot tree.geometry at b ≡ kept_of lower (child tree.geometry index at)) is
              (subst (λ (k : ℕ). tag_in_slot tree.geometry at (current_block tree engine.made k index) ≡ kept_of lower (child tree.geometry index at)) (sym above)
              (current_slots (tags_of d n engine) tree engine.made old.written lower index at (holds.fits was)
              (subst (λ (k : ℕ). IsNode tree.geometry k index) above node) inside))
        ]))

    pub put_holds : WritesOnce (node_place level index) block old new → PutsTag tree tree' level index tag → level < tree.geometry.levels → IsNode tree.geometry level index →
        tag ≡ tags_of d n taken (Node level index block) → IsTag tree.geometry.layout tag → length block ≡ 64 →
        (level ≡ 0) ⊎ (current_block tree engine.made level index ≡ block) →
        HoldsTree (tags_of d n) tree old engine → HoldsTree (tags_of d n) tree' new engine'
    put_holds once puts below node is_tag fits_tag long is_current_block holds = record {
      fits = λ quiet.
          let same_evidence : engine'.evidence ≡ engine.evidence =
          ap (λ (e : TagEngineView T). e.evidence) write.made ∙ ap (λ (e : TagEngineView T). e.evidence) taken_is in
          let was : engine.evidence ≡ None = sym same_evidence ∙ quiet in
          let tags_taken : tags_of d n taken ≡ tags_of d n engine = ap (λ (e : TagEngineView T). tags_of d n e) taken_is in
          let tags : tags_of d n engine' ≡ tags_of d n engine = same_tags d n old new taken engine' write.moves ∙ tags_taken in
          let put : IsPut level index block engine.made engine'.made old.written new.written =
          subst (λ (m : List Message). IsPut level index block m engine'.made old.written new.written) made_before
          (is_put d n write once) in
          subst (λ (t : Message → List ℕ). IsTree t tree' engine'.made new.written) (sym tags)
          (tree_put (tags_of d n engine) tree tree' engine.made engine'.made old.written new.written level index block tag (holds.fits was) puts put
          below node (is_tag ∙ ap (λ (t : Message → List ℕ). t (Node level index block)) tags_taken) fits_tag long is_current_block);
    }

-- a copy that there is
pub held_copy : (found : Option CachedNode) → found ≢ None → (copy : CachedNode) × (found ≡ Some copy)
held_copy None held = absurd (held refl)
held_copy (Some copy) held = (copy, refl)

-- what had a copy before a tag was put into one
pub puts_held : {tree tree' : TreeView} {level index : ℕ} {tag : List ℕ} → PutsTag tree tree' level index tag → (other at : ℕ) →
    cached_node tree' other at ≢ None → cached_node tree other at ≢ None
puts_held {tree} {tree'} {level} {index} {tag} puts other at held none =
    elim (same_or_not (level + 1) (index / arity tree.geometry) other at) [
      | inr apart ↦ held (puts.same other at apart ∙ none)
      | inl here ↦
          let some : cached_node tree other at ≡ Some puts.copy =
          ap (λ (k : ℕ). cached_node tree k at) here.0 ∙ ap (λ (i : ℕ). cached_node tree (level + 1) i) here.1 ∙ puts.held in
          absurd (cc)
    ]
