-- What a line of a script says.
use Rattle.std.specs.Prelude.{ℕ, ◌-◌, ◌^◌, List, [], ◌∷◌, Bool, true, false, ◌&&◌, nat_lt, nat_le, Option, Some, None, Result, Ok, Err, codes, if◌then◌else◌}
use Rattle.std.specs.Str.{bytes_eq}
use Rattle.arrayvec.specs.ArrayVec.{ArrayVec}
use Rattle.sec_base.specs.Geometry.{GeometryView, line_count, width}
use Rattle.sec_base.specs.Place.{stored_size}
use Rattle.sec_base.specs.declared.place.Place.{Place}
use Rattle.sec_base.specs.declared.place.Place.TheVariants.{Line, Node}
use Rattle.adversary_script.specs.declared.fault.ScriptFault.{ScriptFault}
use Rattle.adversary_script.specs.declared.fault.ScriptFault.TheVariants as fault
use Rattle.adversary_script.specs.declared.places.Kind.{Kind}
use Rattle.adversary_script.specs.declared.places.Kind.TheVariants as kind
use Rattle.adversary_script.specs.declared.script.Trigger.{Trigger}
use Rattle.adversary_script.specs.declared.script.Trigger.TheVariants.{Access, Read, Write}
use Rattle.adversary_script.specs.declared.script.Action.{Action}
use Rattle.adversary_script.specs.declared.script.Action.TheVariants.{Set, Flip, Swap, Put, Save, Restore, SaveAll, RestoreAll}
use Rattle.adversary_script.specs.declared.script.ScriptLine.{ScriptLine}
use Rattle.adversary_script.specs.Reading.{Reading, ◌>>=◌, done, fails, found, word, colon_word, end_of_line, number_below, ordinal, register, bytes_within, bytes_of_len}
use Rattle.adversary_script.specs.Words.{without_comment, words_of}

-- ---- places: `data LINE` or `node LEVEL INDEX`

-- a data line or a node of the tree, by its word
abbrev pub kind_named : List ℕ → Option Kind
kind_named name =
    if bytes_eq name (codes "data") then Some kind.Line
    else if bytes_eq name (codes "node") then Some kind.Node
    else None

-- reads the word for a kind of place: `data` or `node`
abbrev pub kind_word : Reading Kind
kind_word = do
  name ← word
  found (kind_named name) fault.Word

-- the place is one of the memory's
abbrev pub is_place : GeometryView → Place → Bool
is_place geometry (Line line) = nat_lt line (line_count geometry)
is_place geometry (Node level index) = nat_le level geometry.levels && nat_lt index (width geometry level)

-- a place whose last number was read, where it is one of the memory's
abbrev pub inside : GeometryView → Place → Reading Place
inside geometry place = if is_place geometry place then done place else fails fault.Place

-- a place of this kind
abbrev pub place_of_kind : GeometryView → Kind → Reading Place
place_of_kind geometry kind.Line = do
  line ← number_below (2 ^ 32)
  inside geometry (Line line)
place_of_kind geometry kind.Node = do
  level ← number_below 256
  index ← number_below (2 ^ 32)
  inside geometry (Node level index)

-- reads a place of the memory of a tree of this geometry
abbrev pub place : GeometryView → Reading Place
place geometry = kind_word >>= place_of_kind geometry

-- ---- triggers: `access N`, `read PLACE K` or `write PLACE K`

-- reads what follows the first word of a trigger: a count, or a place and a count
abbrev pub trigger_named : GeometryView → List ℕ → Reading Trigger
trigger_named geometry name =
    if bytes_eq name (codes "access") then (do
      n ← ordinal
      done (Access n))
    else if bytes_eq name (codes "read") then (do
      at ← place geometry
      k ← ordinal
      done (Read at k))
    else if bytes_eq name (codes "write") then (do
      at ← place geometry
      k ← ordinal
      done (Write at k))
    else fails fault.Word

-- reads a trigger, whose first word says which it is
abbrev pub trigger : GeometryView → Reading Trigger
trigger geometry = word >>= trigger_named geometry

-- ---- actions

-- bytes and where they go: `PLACE OFFSET HEX`, which end inside the place
abbrev pub span : GeometryView → Reading (Place × ℕ × ArrayVec ℕ)
span geometry = do
  at ← place geometry
  offset ← number_below (2 ^ 32)
  bytes ← bytes_within (stored_size geometry at - offset)
  done (at, offset, bytes)

-- `set PLACE OFFSET HEX`
abbrev pub set_action : GeometryView → Reading Action
set_action geometry = do
  new ← span geometry
  done (Set new.0 new.1 new.2)

-- `flip PLACE OFFSET HEX`
abbrev pub flip_action : GeometryView → Reading Action
flip_action geometry = do
  mask ← span geometry
  done (Flip mask.0 mask.1 mask.2)

-- a data line is of the one kind, a node of the tree of the other
abbrev pub is_of_kind : Place → Kind → Bool
is_of_kind (Line line) kind.Line = true
is_of_kind (Line line) kind.Node = false
is_of_kind (Node level index) kind.Line = false
is_of_kind (Node level index) kind.Node = true

-- the kind of a second place, which must be the first one's
abbrev pub same_kind : Place → Reading Kind
same_kind first = do
  other ← kind_word
  if is_of_kind first other then done other else fails fault.Span

-- `swap PLACE PLACE`
abbrev pub swap_action : GeometryView → Reading Action
swap_action geometry = do
  first ← place geometry
  other ← same_kind first
  second ← place_of_kind geometry other
  done (Swap first second)

-- `put PLACE HEX`, with all bytes of the place that may be set
abbrev pub put_action : GeometryView → Reading Action
put_action geometry = do
  at ← place geometry
  bytes ← bytes_of_len (stored_size geometry at)
  done (Put at bytes)

-- `save R PLACE`
abbrev pub save_action : GeometryView → Reading Action
save_action geometry = do
  number ← register
  at ← place geometry
  done (Save number at)

-- `restore R PLACE`
abbrev pub restore_action : GeometryView → Reading Action
restore_action geometry = do
  number ← register
  at ← place geometry
  done (Restore number at)

-- by their first words, with `saveall R` and `restoreall R`
abbrev pub action_named : GeometryView → List ℕ → Reading Action
action_named geometry name =
    if bytes_eq name (codes "set") then set_action geometry
    else if bytes_eq name (codes "flip") then flip_action geometry
    else if bytes_eq name (codes "swap") then swap_action geometry
    else if bytes_eq name (codes "put") then put_action geometry
    else if bytes_eq name (codes "save") then save_action geometry
    else if bytes_eq name (codes "restore") then restore_action geometry
    else if bytes_eq name (codes "saveall") then (do
      number ← register
      done (SaveAll number))
    else if bytes_eq name (codes "restoreall") then (do
      number ← register
      done (RestoreAll number))
    else fails fault.Word

-- reads an action, whose first word says which it is
abbrev pub action : GeometryView → Reading Action
action geometry = word >>= action_named geometry

-- ---- lines: `TRIGGER: ACTION`, or nothing

-- reads a whole line: a trigger, a colon and an action, with no word after them
abbrev pub script_line : GeometryView → Reading ScriptLine
script_line geometry = do
  when ← trigger geometry
  colon ← colon_word
  what ← action geometry
  end_of_line (record { trigger = when; action = what })

-- what was read, without the words behind it
abbrev pub read_alone : {X : Type 0} → Result (X × List (List ℕ)) ScriptFault → Result (Option X) ScriptFault
read_alone (Ok read) = Ok (Some read.0)
read_alone (Err fault) = Err fault

-- the trigger and the action that the words of a line spell; nothing where there is no word
abbrev pub line_in : GeometryView → List (List ℕ) → Result (Option ScriptLine) ScriptFault
line_in geometry [] = Ok None
line_in geometry (first ∷ words) = read_alone (script_line geometry (first ∷ words))

-- what a line says, where it says something, or its first fault
unfoldable pub line_of : GeometryView → List ℕ → Result (Option ScriptLine) ScriptFault
line_of geometry line = line_in geometry (words_of (without_comment line))
