-- The innermost block, among those that the program has.
use Rattle.std.proofs.Common.{◌≡◌, ℕ, suc, ◌<◌, List, [], ◌∷◌, ◌++◌, length, map, take, ◌+◌, ◌-◌, reverse}
use Rattle.std.proofs.Common.{get_or, sym, ap, arith, ◌∙◌}
use Rattle.std.proofs.lemmas.List.{take_all, take_more, length-map, length-reverse, map-append, reverse-append}
use Rattle.scalar_ranges.specs.declared.slots.Slot as code_slot
use Rattle.scalar_ranges.specs.declared.slots.Branching as code_branching
use Rattle.scalar_ranges.specs.Changes.{Slot, Branching}
use Rattle.scalar_ranges.specs.ChangeViews.{slots_from, branching_of, branchings_from, tracked_from}
use Rattle.scalar_ranges.proofs.Rows.{one_longer}

-- ---- the innermost block

pub branchings_more : (blocks : List code_branching.Branching) (b : code_branching.Branching)
    → branchings_from (blocks ++ b ∷ []) ≡ branching_of b ∷ branchings_from blocks
branchings_more blocks b =
    ap reverse (map-append branching_of blocks (b ∷ []))
    ∙ reverse-append (map branching_of blocks) (branching_of b ∷ [])

pub branchings_long : (blocks : List code_branching.Branching) → length (branchings_from blocks) ≡ length blocks
branchings_long blocks = length-reverse (map branching_of blocks) ∙ length-map blocks branching_of

pub branchings_apart : (blocks rest : List code_branching.Branching) (b : code_branching.Branching)
    → blocks ≡ rest ++ b ∷ [] → branchings_from blocks ≡ branching_of b ∷ branchings_from rest
branchings_apart blocks rest b is = ap branchings_from is ∙ branchings_more rest b

-- what is seen once the program has put a block back as the innermost one
pub put_back : (now : List code_slot.Slot) (rest all : List code_branching.Branching)
    (after : code_branching.Branching) {ss : List Slot} {b : Branching} → slots_from now ≡ ss
    → all ≡ rest ++ after ∷ [] → branching_of after ≡ b
    → tracked_from now all ≡ record { slots = ss; blocks = b ∷ branchings_from rest }
put_back now rest all after changed pushed is =
    let last = branchings_apart all rest after pushed ∙ ap (λ k. k ∷ branchings_from rest) is in
    λ i. record { slots = changed i; blocks = last i }

-- the blocks with the innermost one apart
pub record Innermost (blocks rest : List code_branching.Branching) (b : code_branching.Branching)
    (depth : ℕ) : Type 0 where
  pub seen : branchings_from blocks ≡ branching_of b ∷ branchings_from rest
  pub deep : depth ≡ suc (length (branchings_from rest))

pub innermost : (blocks rest : List code_branching.Branching) (b : code_branching.Branching) (depth : ℕ)
    → blocks ≡ rest ++ b ∷ [] → depth ≡ length blocks → Innermost blocks rest b depth
innermost blocks rest b depth is deep = record {
  seen = branchings_apart blocks rest b is;
  deep = deep ∙ ap length is ∙ one_longer rest b ∙ ap suc (sym (branchings_long rest));
}

last_apart : (blocks lent : List code_branching.Branching) (b : code_branching.Branching) → lent ≡ blocks
    → 0 < length lent → b ≡ get_or lent (length lent - 1) b → blocks ≡ take (length blocks - 1) blocks ++ b ∷ []
last_apart blocks lent b same some found =
    let long = ap length same in
    let last : length blocks - 1 + 1 ≡ length blocks = omega arith in
    let is : b ≡ get_or blocks (length blocks - 1) b =
    found ∙ (λ i. get_or (same i) (length (same i) - 1) b) in
    sym (take_all (length blocks) blocks (omega arith)) ∙ ap (λ k. take k blocks) (sym last)
    ∙ take_more blocks (length blocks - 1) b (omega arith)
    ∙ ap (λ k. take (length blocks - 1) blocks ++ k ∷ []) (sym is)

-- the same of the block that is seen as the last one
pub innermost_seen : (blocks lent : List code_branching.Branching) (b : code_branching.Branching) (depth : ℕ)
    → lent ≡ blocks → 0 < length lent → b ≡ get_or lent (length lent - 1) b → depth ≡ length blocks
    → Innermost blocks (take (length blocks - 1) blocks) b depth
innermost_seen blocks lent b depth same some found deep =
    innermost blocks (take (length blocks - 1) blocks) b depth (last_apart blocks lent b same some found) deep
