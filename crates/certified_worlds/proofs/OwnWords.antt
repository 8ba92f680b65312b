-- The words that a start takes are the process's own, by the tests of the start.
use Rattle.std.proofs.Common.{◌≡◌, ℕ, ◌&&◌, Bool, true, List, [], ◌∷◌, ◌++◌, None, refl}
use Rattle.std.specs.List.{list_all}
use Rattle.std.proofs.lemmas.Bool.{and_parts, and_from}
use Rattle.machine_state.specs.Frame.{ChangesOwn}
use Rattle.machine_state.specs.Holding.{Holding, may_write, may_write_word}
use Rattle.machine_state.specs.JoinLookups.{Found}
use Rattle.machine_state.specs.Joins.{without_words}
use Rattle.machine_state.specs.Memory.{Memory, place_of, with_word}
use Rattle.machine_state.specs.Spans.{writes_place}
use Rattle.machine_state.specs.StartPlans.{Plan, word_passes, scheduling_addresses, share_by}
use Rattle.machine_state.specs.StartPlans.{block_addresses, channel_addresses, share_is_there, words_are_held}
use Rattle.machine_state.proofs.Frame.{changes_more, changes_nothing, write_is_own}

words_are_own : (h : Holding) (addresses : List ℕ) (memory : Memory)
    → list_all (λ a. may_write_word h (place_of a)) addresses ≡ true
    → ChangesOwn h memory (without_words addresses memory)
words_are_own h [] memory own = changes_nothing h memory
words_are_own h (a ∷ addresses) memory own =
    let both = and_parts _ _ own in
    changes_more h memory (with_word memory (place_of a) None) _ (write_is_own h memory (place_of a) None both.0)
    (words_are_own h addresses (with_word memory (place_of a) None) both.1)

-- a word passes a test that only own places pass
passed_word : (h : Holding) (test : ℕ → Bool) → ((q : ℕ) → test q ≡ true → may_write h q ≡ true) → (place : ℕ)
    → word_passes test place ≡ true → may_write_word h place ≡ true
unfolding may_write_word
passed_word h test own place passes =
    let p = and_parts _ _ passes in
    let q = and_parts _ _ p.0 in
    let r = and_parts _ _ q.0 in
    and_from _ _ (and_from _ _ (and_from _ _ (own _ r.0) (own _ r.1)) (own _ q.1)) (own _ p.1)

-- those that scheduling takes
pub scheduling_is_own : (h : Holding) (n : ℕ) (plan : Plan) (found : Found) (workspace : ℕ) (memory : Memory)
    → ((q : ℕ) → may_write plan.rest q ≡ true → may_write h q ≡ true)
    → share_is_there n plan workspace found.branch ≡ true
    → ChangesOwn h memory (without_words (scheduling_addresses workspace) memory)
scheduling_is_own h n plan found workspace memory own there =
    let passes = (and_parts _ _ (and_parts _ _ there).0).0 in
    let p = and_parts _ _ passes in
    let q = and_parts _ _ p.1 in
    let r = and_parts _ _ q.1 in
    words_are_own h (scheduling_addresses workspace) memory (and_from _ _ (mine _ p.0)
    (and_from _ _ (mine _ q.0) (and_from _ _ (mine _ r.0) refl)))
  where
    mine : (place : ℕ)
        → word_passes (λ place. may_write plan.rest place && writes_place (share_by plan found.branch) place) place
        ≡ true → may_write_word h place ≡ true
    mine place passes = passed_word h
        (λ place. may_write plan.rest place && writes_place (share_by plan found.branch) place)
        (λ q both. own q (and_parts _ _ both).0) place passes

-- and those of the block and the channels
pub opening_is_own : (h : Holding) (plan : Plan) (memory : Memory) → words_are_held h plan ≡ true
    → ChangesOwn h memory
    (without_words (block_addresses plan.base plan.par ++ channel_addresses plan.base plan.par) memory)
opening_is_own h plan memory held = words_are_own h
    (block_addresses plan.base plan.par ++ channel_addresses plan.base plan.par) memory (and_parts _ _ held).0
