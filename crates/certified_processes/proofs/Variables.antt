-- At each site variables have words of their own, and the channel of an action is the end of a link.
use Rattle.std.proofs.Common.{◌≡◌, ℕ, ◌+◌, ◌<◌, ◌≤◌, List, Option, Some}
use Rattle.std.proofs.Common.{refl, sym, ap, subst, ◌∙◌, arith}
use Rattle.std.specs.Prelude.{option_and_then, slice_get}
use Rattle.word_arithmetic.specs.Range.{Ends}
use Rattle.module_format.specs.declared.rows.EndKind.TheVariants as ends
use Rattle.certificate.specs.Rights.{has_end}
use Rattle.occam_parser.specs.declared.tree.ValueType.{ValueType}
use Rattle.occam_parser.specs.Expressions.{Expression}
use Rattle.occam_parser.specs.Lines.{Action, Input, Output}
use Rattle.occam_parser.specs.Blocks.{Act, Does}
use Rattle.scalar_ranges.specs.declared.scope.ArrayKind.TheVariants as array
use Rattle.scalar_ranges.specs.declared.scope.ScalarKind.TheVariants as scalar
use Rattle.scalar_ranges.specs.Entries.{Array, Entry, Scalar, meaning_in}
use Rattle.program_uses.specs.declared.uses.Direction.{Direction}
use Rattle.program_uses.specs.declared.uses.Direction.TheVariants as direction
use Rattle.program_meaning.specs.Links.{Port, message_length}
use Rattle.usage_checks.specs.Reaching.{AProcess, Reaches}
use Rattle.usage_checks.proofs.PlacesHold.{places_hold}
use Rattle.line_pieces.specs.Actions.{carried}
use Rattle.line_pieces.specs.Homes.{Home, Word, home_of, words_for}
use Rattle.code_generator.specs.Processes.{Site}
use Rattle.code_generator.specs.Programs.{link_of}
use Rattle.certified_lines.specs.Scopes.{IsHousedThere}
use Rattle.certified_lines.proofs.Telling.{name_has}
use Rattle.certified_actions.specs.Checked.{HasOwnWord, HasOwnWords, HasPort, HasVariables}
use Rattle.certified_actions.specs.Exchanging.{IsPort}
use Rattle.certified_scopes.proofs.Beside.{scalars_are_beside}
use Rattle.meant_processes.specs.Places.{standing}
use Rattle.meant_processes.proofs.Housed.{arrays_housed, no_references, scalars_housed}
use Rattle.meant_processes.proofs.Linked.{IsUsed}
use Rattle.meant_processes.proofs.Ports.{UsesLink, reached_link}
use Rattle.certified_processes.specs.Places.{Coded, IsInRoot, end_way, scene}
use Rattle.certified_processes.proofs.There.{IsThere}

-- ---- channels

module _ (p : Coded) (root : IsInRoot p) (s : Site) (placed : IsThere p s) where
  abbrev es : List Entry
  es = s.known.entries

  link_less : (port : Port) → port.link < 4 → link_of port < 8
  link_less port less = by port.way
    where
      by : (way : Direction) → elim way [ direction.Output ↦ port.link | direction.Input ↦ port.link + 4 ] < 8
      by direction.Output = omega (arith, less)
      by direction.Input = omega (arith, less)

  link_port : (way : Direction) (name : List ℕ) (subscript : Option Expression)
      → IsUsed p.program es way name subscript
      → IsPort (scene p s) es (end_way way) (record { name = name; subscript = subscript })
      (carried (meaning_in name es))
  link_port way name subscript used =
      let x = used.link in
      let port = x.port in
      let both = root.ends used.found.n port x.is in
      let carries : port.carries ≡ carried (meaning_in name es) = x.carries ∙ sym (ap carried used.means) in
      subst (λ (o : Option Expression).
      IsPort (scene p s) es (end_way way) (record { name = name; subscript = o }) (carried (meaning_in name es)))
      (sym used.whole)
      (record {
        link = link_of port;
        inside = link_less port x.link;
        at = ap (option_and_then (slice_get s.frame.homes)) used.found.number
            ∙ placed.sited.links used.found.n port x.is;
        carries = refl;
        length = both.length ∙ ap message_length carries;
        end = ap (λ (d : Direction). has_end p.passage.setting.contents p.passage.setting.context
            (record { kind = ends.Link (link_of port); direction = end_way d }))
            (sym used.way_is)
            ∙ both.end;
      })

  -- The channel of an action that is reached is the end of a link.
  pub reached_port : (first line : ℕ) (action : Action)
      → Reaches p.program.items (standing p.program) (AProcess first (Does line (Act action))) s.known
      → HasPort (scene p s) es action
  reached_port first line action reached =
      by action (reached_link p.program root.unbroken first line action s.known reached placed.sited.linked)
    where
      by : (action : Action) → UsesLink p.program es action → HasPort (scene p s) es action
      by (Input channel target) used = link_port direction.Input channel.name channel.subscript used
      by (Output channel value) used = link_port direction.Output channel.name channel.subscript used
      by action used = tt

  -- ---- variables

  word_below : (name : List ℕ) (w : ℕ) (type : ValueType) (range : Ends)
      → meaning_in name es ≡ Some (Scalar scalar.Variable type range) → home_of s.frame.homes es name ≡ Some (Word w)
      → w < p.program.words
  word_below name w type range means at =
      let top = placed.inner.end in
      let less = (subst (λ (o : Option Home). IsHousedThere (scene p s) top o (Scalar scalar.Variable type range)) at
      (name_has (IsHousedThere (scene p s) top) s.frame.homes es name (Scalar scalar.Variable type range)
      placed.inner.scope.housed means)).1 in
      let under = placed.inner.under in
      let room = placed.room in
      omega (arith, less, under, room)

  words_below : (name : List ℕ) (w : ℕ) (type : ValueType) (size : ℕ) (range : Ends)
      → meaning_in name es ≡ Some (Array array.Variable type (Some size) range)
      → home_of s.frame.homes es name ≡ Some (Word w)
      → w + words_for type size ≤ p.program.words
  words_below name w type size range means at =
      let top = placed.inner.end in
      let less = (subst (λ (o : Option Home).
      IsHousedThere (scene p s) top o (Array array.Variable type (Some size) range)) at
      (name_has (IsHousedThere (scene p s) top) s.frame.homes es name (Array array.Variable type (Some size) range)
      placed.inner.scope.housed means)).1 in
      let under = placed.inner.under in
      let room = placed.room in
      omega (arith, less, under, room)

  own_word : (name : List ℕ) (type : ValueType) (range : Ends)
      → meaning_in name es ≡ Some (Scalar scalar.Variable type range) → HasOwnWord (scene p s) es name
  own_word name type range means =
      let found = scalars_housed s.frame.homes es name type range placed.sited.housed means in
      let below = word_below name found.0 type range means found.1 in
      record {
        word = found.0;
        at = found.1;
        beside = scalars_are_beside s.frame.homes es placed.settled.end name found.0 scalar.Variable type range
            placed.settled.turn means found.1;
        writes = root.uses.writes found.0 (omega arith) (omega (arith, below));
      }

  own_words : (name : List ℕ) (type : ValueType) (size : ℕ) (range : Ends)
      → meaning_in name es ≡ Some (Array array.Variable type (Some size) range)
      → HasOwnWords (scene p s) es name (words_for type size)
  own_words name type size range means =
      let found = arrays_housed s.frame.homes es name type (Some size) range placed.sited.housed means in
      let below = words_below name found.0 type size range means found.1 in
      record {
        word = found.0;
        at = found.1;
        writes = λ n less.
            root.uses.writes (found.0 + n) (omega arith) (omega (arith, below, less));
      }

  -- Variables are where actions want them.
  pub variables_there : (first line : ℕ) (action : Action)
      → Reaches p.program.items (standing p.program) (AProcess first (Does line (Act action))) s.known
      → HasVariables (scene p s) es
  variables_there first line action reached =
      let right = places_hold p.program.items (standing p.program) (AProcess first (Does line (Act action))) s.known
      root.unbroken reached in
      record {
        count = _;
        whole = right.whole.entries;
        scalars = own_word;
        references = λ name type range means. no_references es name type range placed.sited.own means;
        arrays = own_words;
      }
