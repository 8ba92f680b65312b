-- The variables that constructs change, listed by the lines on which the constructs begin.
use Rattle.std.specs.Prelude.{◌≡◌, ℕ, List, Option, Some, None, option_map, option_and_then}
use Rattle.std.specs.BTreeMap.{get}
use Rattle.std.specs.Ordering.{nat_cmp}
use Rattle.occam_parser.specs.Lines.{Replicator, block_word}
use Rattle.occam_parser.specs.Blocks.{Process, Declared, Does, Construct, Act, Block, Replicated, Body, One, Part}
use Rattle.occam_parser.specs.Blocks.{Components, NoComponent, Further, Component, Plain, Chosen, Guarded}
use Rattle.scalar_ranges.specs.Entries.{Entry}
use Rattle.scalar_ranges.specs.Moves.{is_one_of}
use Rattle.program_uses.specs.declared.listing.ChangeLists.{ChangeLists}
use Rattle.program_uses.specs.Changes.{changed_by_construct}
use Rattle.program_uses.specs.Declaring.{add, add_outline}
use Rattle.program_uses.specs.Indices.{is_seq, index_meaning}
use Rattle.program_uses.specs.Signatures.{Parameter}

-- the same numbers, in whatever order and however often: what a loop or a PAR does with them is the same
abbrev pub SameNumbers : List ℕ → List ℕ → Type 0
SameNumbers ms ns = (n : ℕ) → is_one_of ms n ≡ is_one_of ns n

-- the entry of a line: nothing, or a list unless several constructs begin there
abbrev pub entry_on : ℕ → ChangeLists → Option (Option (List ℕ))
entry_on line t = option_map (λ o. option_map (λ v. v.items) o) (get nat_cmp t.lists line)

abbrev pub list_on : ℕ → ChangeLists → Option (List ℕ)
list_on line t = option_and_then (λ o. o) (entry_on line t)

-- Something is there, and no list but one of these numbers.
abbrev pub Stands : Option (Option (List ℕ)) → List ℕ → Type 0
Stands None ns = ⊥
Stands (Some None) ns = Unit {0}
Stands (Some (Some ms)) ns = SameNumbers ms ns

abbrev pub IsListed : ChangeLists → ℕ → List ℕ → Type 0
IsListed t line ns = Stands (entry_on line t) ns

-- What is listed in the one is listed in the other.
abbrev pub Keeps : ChangeLists → ChangeLists → Type 0
Keeps old new = (line : ℕ) (ns : List ℕ) → IsListed old line ns → IsListed new line ns

-- Each construct in a process is listed, with what it changes in the scope where it is.
abbrev mutual
  pub AreListed : ChangeLists → List (List Parameter) → List Entry → Process → Type 0
  AreListed t signatures es (Declared d p) = AreListed t signatures (add_outline d es) p
  AreListed t signatures es (Does line c) =
      IsListed t line (changed_by_construct signatures es c) × ListsWithin t signatures es c

  pub ListsWithin : ChangeLists → List (List Parameter) → List Entry → Construct → Type 0
  ListsWithin t signatures es (Act action) = Unit {0}
  ListsWithin t signatures es (Block kind cs) = ListsComponents t signatures es cs
  ListsWithin t signatures es (Replicated r b) = ListsBody t signatures es r b

  pub ListsBody : ChangeLists → List (List Parameter) → List Entry → Replicator → Body → Type 0
  ListsBody t signatures es r (One kind c) =
      ListsComponent t signatures (add r.name (index_meaning (is_seq (block_word kind)) None) es) c

  pub ListsComponents : {part : Part} → ChangeLists → List (List Parameter) → List Entry → Components part → Type 0
  ListsComponents t signatures es NoComponent = Unit {0}
  ListsComponents t signatures es (Further cs c) =
      ListsComponents t signatures es cs × ListsComponent t signatures es c

  pub ListsComponent : {part : Part} → ChangeLists → List (List Parameter) → List Entry → Component part → Type 0
  ListsComponent t signatures es (Plain p) = AreListed t signatures es p
  ListsComponent t signatures es (Chosen line e p) = AreListed t signatures es p
  ListsComponent t signatures es (Guarded line g p) = AreListed t signatures es p

-- the one component under a replicator
abbrev pub ListsOne : ChangeLists → List (List Parameter) → List Entry → Body → Type 0
ListsOne t signatures es (One kind c) = ListsComponent t signatures es c
