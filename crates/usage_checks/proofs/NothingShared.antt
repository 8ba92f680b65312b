-- At each place at which what a procedure uses is gathered nothing is shared, if the program breaks no rule.
use Rattle.std.proofs.Common.{ℕ, zero, suc, ◌<◌, List, inl, inr, subst, arith}
use Rattle.occam_parser.specs.Blocks.{Declared, Does, Construct, Act, Block, Replicated, One, Part, Components}
use Rattle.occam_parser.specs.Blocks.{NoComponent, Further, Component, Plain, Chosen, Guarded}
use Rattle.occam_parser.specs.Blocks.{GlobalProcedure}
use Rattle.scalar_ranges.specs.Entries.{Entry}
use Rattle.program_uses.specs.declared.telling.UsageFault.{UsageFault}
use Rattle.program_uses.specs.Actions.{Around}
use Rattle.program_uses.specs.Indices.{is_sequence}
use Rattle.program_uses.specs.Processes.{in_turn}
use Rattle.program_uses.specs.Sharing.{InSomeTurn, Shares, SharesInConstruct, SharesInComponents, SharesInComponent}
use Rattle.usage_checks.specs.Reaching.{Piece, AProcess, AComponent, process_of}
use Rattle.usage_checks.specs.Unshared.{IsAmong, turns_in, IsPart, from_body, behind_it, in_part, in_process}
use Rattle.usage_checks.specs.Unshared.{SharesPiece, NothingShared}
use Rattle.usage_checks.proofs.PlacesHold.{items_hold, last_or_before}

-- what is shared in one of n turns
in_some_turn : (Breaks : ℕ → UsageFault → Type 0) (count n : ℕ) (f : UsageFault) → n < count → Breaks n f
    → InSomeTurn Breaks count f
in_some_turn Breaks zero n f less x = absurd (omega (arith, less))
in_some_turn Breaks (suc count) n f less x =
    elim (last_or_before n count less) [
      | inl is ↦ inr (subst (λ m. Breaks m f) is x)
      | inr before ↦ inl (in_some_turn Breaks count n f before x)
    ]

-- what is shared in one of the components
among_shares : {part : Part} (a : Around) (cs : Components part) (es : List Entry) (piece : Piece) (f : UsageFault)
    → IsAmong cs piece → SharesPiece a piece es f → SharesInComponents a es cs f
among_shares a NoComponent es piece f among x = absurd among
among_shares a (Further cs c) es piece f (inl is) x = inr (subst (λ piece. SharesPiece a piece es f) is x)
among_shares a (Further cs c) es piece f (inr earlier) x = inl (among_shares a cs es piece f earlier x)

part_shares : (a : Around) (line : ℕ) (c : Construct) (es fs : List Entry) (piece : Piece) (f : UsageFault)
    → IsPart a line c es piece fs → SharesPiece a piece fs f → SharesInConstruct a es line c f
part_shares a line (Act action) es fs piece f part x = absurd part
part_shares a line (Block kind cs) es fs piece f part x =
    inl (among_shares a cs es piece f part.0 (subst (λ es. SharesPiece a piece es f) part.1 x))
part_shares a line (Replicated r (One kind c)) es fs piece f part x =
    let b = One kind c in
    let turns = turns_in a line r b es in
    let turn : ℕ → List Entry = λ n. in_turn r (is_sequence b) turns.first n es in
    inl (in_some_turn (λ n. SharesInComponent a (turn n) c) turns.count part.0 f part.2
    (subst (λ (y : Piece × List Entry). SharesPiece a y.0 y.1 f) (λ i. (part.1 i, part.3 i)) x))

component_shares : {part : Part} (a : Around) (c : Component part) (es : List Entry) (f : UsageFault)
    → Shares a es (process_of c) f → SharesInComponent a es c f
component_shares a (Plain p) es f x = x
component_shares a (Chosen line e p) es f x = x
component_shares a (Guarded line g p) es f x = x

pub nothing_shared : NothingShared
nothing_shared items a piece es none (from_body o p comes) f x =
    (items_hold items o (GlobalProcedure p) none comes).unbroken f (inl (inr (inl x)))
nothing_shared items a piece es none (behind_it b first d p fs reached) f x =
    nothing_shared items b (AProcess first (Declared d p)) fs none reached f x
nothing_shared items a piece es none (in_part b first line c q fs gs reached part) f x =
    nothing_shared items b (AProcess first (Does line c)) fs none reached f (part_shares b line c fs gs q f part x)
nothing_shared items a piece es none (in_process b c fs reached) f x =
    nothing_shared items b (AComponent c) fs none reached f (component_shares b c fs f x)
