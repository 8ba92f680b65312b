-- What processes use.
use Rattle.std.specs.Prelude.{◌≡◌, ℕ, ℤ, Bool, true, false, List, [], ◌++◌, Option}
use Rattle.occam_parser.specs.Lines.{Replicator, block_word}
use Rattle.occam_parser.specs.Blocks.{Process, Declared, Does, Construct, Act, Block, Replicated, Body, One, Part}
use Rattle.occam_parser.specs.Blocks.{Components, NoComponent, Further, Component, Plain, Chosen, Guarded}
use Rattle.scalar_ranges.specs.Entries.{Entry}
use Rattle.scalar_ranges.specs.Moves.{Known}
use Rattle.program_uses.specs.declared.uses.Use.{Use}
use Rattle.program_uses.specs.declared.uses.Uses.{Uses}
use Rattle.program_uses.specs.declared.telling.UsageFault.{UsageFault}
use Rattle.program_uses.specs.Sets.{Adds}
use Rattle.program_uses.specs.Mentions.{reads_of}
use Rattle.program_uses.specs.Actions.{Around, is_before, uses_of_action, uses_of_guard, uses_of_declaration}
use Rattle.program_uses.specs.Declaring.{add, add_outline}
use Rattle.program_uses.specs.Indices.{is_seq, turns_of, index_at, index_meaning, in_turns}
use Rattle.program_uses.specs.Telling.{IsFirst, Among}

-- the scope in a turn
abbrev pub in_turn : Replicator → Bool → Option ℤ → ℕ → List Entry → List Entry
in_turn r sequential first n es = add r.name (index_meaning sequential (index_at first n)) es

-- What is declared inside has numbers from the length of the scope on.
abbrev mutual
  pub uses_of : Around → List Entry → Process → List Use
  uses_of a es (Declared d p) = uses_of_declaration es d ++ uses_of a (add_outline d es) p
  uses_of a es (Does line c) = uses_of_construct a es line c

  pub uses_of_construct : Around → List Entry → ℕ → Construct → List Use
  uses_of_construct a es line (Act action) = uses_of_action a es line action
  uses_of_construct a es line (Block kind cs) = uses_of_components a es cs
  uses_of_construct a es line (Replicated r b) =
      reads_of es r.base ++ (reads_of es r.count ++ uses_of_body a es line r b)

  -- under a replicator, turn by turn
  pub uses_of_body : Around → List Entry → ℕ → Replicator → Body → List Use
  uses_of_body a es line r (One kind c) =
      let sequential = is_seq (block_word kind) in
      let turns = turns_of (is_before line a.uncounted) es sequential r in
      in_turns (λ n. uses_of_component a (in_turn r sequential turns.first n es) c) turns.count

  pub uses_of_components : {part : Part} → Around → List Entry → Components part → List Use
  uses_of_components a es NoComponent = []
  uses_of_components a es (Further cs c) = uses_of_components a es cs ++ uses_of_component a es c

  pub uses_of_component : {part : Part} → Around → List Entry → Component part → List Use
  uses_of_component a es (Plain p) = uses_of a es p
  uses_of_component a es (Chosen line e p) = reads_of es e ++ uses_of a es p
  uses_of_component a es (Guarded line g p) = uses_of_guard es g ++ uses_of a es p

-- the one component under a replicator, in one turn
abbrev pub uses_of_one : Around → List Entry → Body → List Use
uses_of_one a es (One kind c) = uses_of_component a es c

-- the same where its index is a constant
abbrev pub uses_in_turn : Around → List Entry → Option ℤ → List ℕ → Body → ℕ → List Use
uses_in_turn a es first name b n = uses_of_one a (add name (index_meaning false (index_at first n)) es) b

-- What is used was added, the first of the faults so far and of those in it is reported, and the scope is as it was.
pub record Collects (old new : Uses) (told now : Option UsageFault) (before after : Known) (us : List Use)
    (Breaks : UsageFault → Type 0) : Type 0 where
  pub uses : Adds old new us
  pub first : new.complete ≡ true → IsFirst (Among told Breaks) now
  pub scope : after ≡ before
