-- What is known after a process: the moves of its parts, one after another.
use Rattle.std.specs.Prelude.{ℕ, Bool, true, false, List, length, Some}
use Rattle.occam_layout.specs.declared.mark.Mark.TheVariants as mark
use Rattle.occam_parser.specs.Terminals.{Terminal, Mark}
use Rattle.occam_parser.specs.Expressions.{Expression}
use Rattle.occam_parser.specs.Lines.{Replicator, block_word}
use Rattle.occam_parser.specs.Blocks.{Process, Declared, Does, Construct, Act, Block, Replicated, Body, One, Part}
use Rattle.occam_parser.specs.Blocks.{Components, NoComponent, Further, Component, Plain, Chosen, Guarded}
use Rattle.scalar_ranges.specs.Moves.{Known, leave, begin, exclude, next, end, begin_par, next_component, begin_loop}
use Rattle.program_uses.specs.Changes.{changed_by, changed_by_body}
use Rattle.program_uses.specs.Actions.{Around, is_before}
use Rattle.program_uses.specs.Declaring.{add, add_declaration}
use Rattle.program_uses.specs.Indices.{is_seq, repeats_of, index_in, turn_by_turn}
use Rattle.usage_checks.specs.Following.{after_action, after_guard, where_holds}
use Rattle.usage_checks.specs.NameRules.{with_entries}

-- what was declared since there was this number of names is left
abbrev pub left_to : ℕ → Known → Known
left_to count k = with_entries (leave count k.blocks) k

-- A block begins, and ends after its last component, by its word.
abbrev pub begun : Terminal → Known → Known
begun (Mark mark.Par) k = begin_par k
begun (Mark mark.If) k = begin k
begun (Mark mark.Alt) k = begin k
begun word k = k

abbrev pub ended : Terminal → Known → Known
ended (Mark mark.Par) k = end k
ended (Mark mark.If) k = end k
ended (Mark mark.Alt) k = end k
ended word k = k

-- A body begins. If it does not happen it is gone over inside a block without branches, so that all is then as it was.
abbrev pub unless : Bool → (Known → Known) → Known → Known
unless true move k = k
unless false move k = move k

abbrev pub begun_turns : Terminal → List ℕ → Known → Known
begun_turns (Mark mark.Seq) changed k = begin_loop changed k
begun_turns word changed k = begun word k

abbrev pub begun_body : Terminal → List ℕ → Bool → Known → Known
begun_body word changed happens k = begun_turns word changed (unless happens begin k)

-- A body ends after its last turn.
abbrev pub repeated : Bool → Known → Known
repeated happens k = unless happens end (end k)

-- where the process of a choice begins
abbrev pub chosen : Expression → Known → Known
chosen e k = with_entries (where_holds (Some e)) (exclude e k)

-- A process of a block ends: one of a PAR, which changed these variables, or else one of a SEQ.
abbrev pub process_ended : Terminal → ℕ → List ℕ → Known → Known
process_ended (Mark mark.Par) count changed k = next_component changed k
process_ended word count changed k = left_to count k

abbrev mutual
  -- where a process ends, with what it declares
  pub inside : Around → Process → Known → Known
  inside a (Declared d p) k = inside a p (with_entries (add_declaration d) k)
  inside a (Does line c) k = after_construct a line c k

  pub after_construct : Around → ℕ → Construct → Known → Known
  after_construct a line (Act action) k = with_entries (after_action a.signatures action) k
  after_construct a line (Block kind cs) k =
      ended (block_word kind) (after_components a (block_word kind) cs (begun (block_word kind) k))
  after_construct a line (Replicated r b) k = after_body a line r b k

  -- the body of a replicator, turn by turn
  pub after_body : Around → ℕ → Replicator → Body → Known → Known
  after_body a line r (One kind c) k =
      let word = block_word kind in
      let repeats = repeats_of (is_before line a.uncounted) k.entries (is_seq word) r in
      repeated repeats.happens
      (turn_by_turn (λ n l. after_component a word c (with_entries (add r.name (index_in repeats n)) l))
      repeats.turns.count
      (begun_body word (changed_by_body a.signatures k.entries r (One kind c)) repeats.happens k))

  pub after_components : {part : Part} → Around → Terminal → Components part → Known → Known
  after_components a word NoComponent k = k
  after_components a word (Further cs c) k = after_component a word c (after_components a word cs k)

  -- a component ends, and what is next begins
  pub after_component : {part : Part} → Around → Terminal → Component part → Known → Known
  after_component a word (Plain p) k =
      process_ended word (length k.entries) (changed_by a.signatures k.entries p) (inside a p k)
  after_component a word (Chosen line e p) k = next (inside a p (chosen e k))
  after_component a word (Guarded line g p) k = next (inside a p (with_entries (after_guard g) k))
