-- The counts of what is enabled stay right.
use Rattle.std.proofs.Common.{◌≡◌, ℕ, ◌+◌, ◌-◌, ◌<◌, ◌≤◌, ◌||◌, ◌^◌, nat_lt, Bool, true, false, cond, List, [], ◌∷◌}
use Rattle.std.proofs.Common.{length}
use Rattle.std.proofs.Common.{Option, Some, None, IfSome, get_or, slice_get, slice_set, slice_index, refl, ap, ◌∙◌, sym}
use Rattle.std.proofs.Common.{◌==◌, zero, suc, arith, count_by, length-set, replicate, subst, ⊎_elim}
use Rattle.std.specs.List.{list_any}
use Rattle.std.proofs.lemmas.Grind.{common_steps}
use Rattle.std.proofs.lemmas.Bool.{cases_lt}
use Rattle.std.proofs.lemmas.List.{get_or_past}
use Rattle.std.proofs.lemmas.List.Sums.{sum_by-cons, sum_by-set, get_or-le-sum_by, count_by-le-length}
use Rattle.std.proofs.lemmas.Option.{slice_get_within, get_or_from_slice_get}
use Rattle.machine_state.specs.declared.process.Channel.{Channel}
use Rattle.machine_state.specs.declared.link.InputLink.{InputLink}
use Rattle.machine_state.specs.Alternations.{is_by}
use Rattle.traffic.specs.EnabledCounts.{enabler_of, enabled_count, AreCounts, one_fewer, one_more, handed_over}

-- ---- in one list

module _ {X : Type 0} (test : X → Bool) where
  positive : (b : Bool) (any : Bool) (n : ℕ) → any ≡ nat_lt 0 n → (b || any) ≡ nat_lt 0 (cond b 1 0 + n)
  positive true any n same = grind arith
  positive false any n same = grind (arith, same)

  -- some pass if their count is not 0
  pub any_is_positive : (xs : List X) → list_any test xs ≡ nat_lt 0 (count_by test xs)
  any_is_positive [] = refl
  any_is_positive (x ∷ xs) =
      positive (test x) (list_any test xs) (count_by test xs) (any_is_positive xs)
      ∙ ap (nat_lt 0) (sym (sum_by-cons (λ y. cond (test y) 1 0) x xs))

  -- another element in one place
  pub count_after_set : (xs : List X) (k : ℕ) (old new : X) → slice_get xs k ≡ Some old
      → count_by test (slice_set xs k new) + cond (test old) 1 0 ≡ count_by test xs + cond (test new) 1 0
  count_after_set xs k old new there =
      let within : k < length xs = slice_get_within xs k old there in
      let is_old : get_or xs k old ≡ old = get_or_from_slice_get xs k old old there in
      ap (λ x. count_by test (slice_set xs k new) + cond (test x) 1 0) (sym is_old)
      ∙ sum_by-set (λ y. cond (test y) 1 0) xs k new old within

  pub one_of_count : (xs : List X) (k : ℕ) (old : X) → slice_get xs k ≡ Some old
      → cond (test old) 1 0 ≤ count_by test xs
  one_of_count xs k old there =
      let within : k < length xs = slice_get_within xs k old there in
      let is_old : get_or xs k old ≡ old = get_or_from_slice_get xs k old old there in
      subst (λ x. cond (test x) 1 0 ≤ count_by test xs) is_old
      (get_or-le-sum_by (λ y. cond (test y) 1 0) xs k old within)

-- ---- in the list of counts

at_set : (counts : List ℕ) (q p n : ℕ) → p < length counts
    → slice_index (slice_set counts q n) p ≡ cond (q == p) n (slice_index counts p)
at_set counts q p n within = grind (arith, common_steps)

fewer-length : (o : Option ℕ) (counts : List ℕ) → length (one_fewer o counts) ≡ length counts
fewer-length None counts = refl
fewer-length (Some q) counts = length-set counts q (slice_index counts q - 1)

more-length : (o : Option ℕ) (counts : List ℕ) → length (one_more o counts) ≡ length counts
more-length None counts = refl
more-length (Some q) counts = length-set counts q (slice_index counts q + 1)

at_fewer : (o : Option ℕ) (counts : List ℕ) (p : ℕ) → p < length counts
    → slice_index (one_fewer o counts) p ≡ slice_index counts p - cond (is_by o p) 1 0
at_fewer None counts p within = omega arith
at_fewer (Some q) counts p within = grind (arith, common_steps, at_set counts q p (slice_index counts q - 1) within)

at_more : (o : Option ℕ) (counts : List ℕ) (p : ℕ) → p < length counts
    → slice_index (one_more o counts) p ≡ slice_index counts p + cond (is_by o p) 1 0
at_more None counts p within = omega arith
at_more (Some q) counts p within = grind (arith, common_steps, at_set counts q p (slice_index counts q + 1) within)

-- a count stays right where one process hands over to another
recounted : (counts : List ℕ) (p : ℕ) (before after : Option ℕ) (n m : ℕ) → p < length counts
    → slice_index counts p ≡ n → cond (is_by before p) 1 0 ≤ n
    → m + cond (is_by before p) 1 0 ≡ n + cond (is_by after p) 1 0
    → slice_index (handed_over before after counts) p ≡ m
recounted counts p before after n m within is_n most changed =
    let fewer : List ℕ = one_fewer before counts in
    let still : p < length fewer = omega (arith, fewer-length before counts) in
    omega (arith, at_more after fewer p still, at_fewer before counts p within)

pub handed-length : (before after : Option ℕ) (counts : List ℕ)
    → length (handed_over before after counts) ≡ length counts
handed-length before after counts = more-length after (one_fewer before counts) ∙ fewer-length before counts

-- ---- in the traffic

pub in_cell : (p : ℕ) (cell : Option Channel)
    → ◌≡◌ {A = ℕ} (cond (elim cell as (λ x. Bool) [ None ↦ false | Some channel ↦ is_by channel.enabled p ]) 1 0)
    (cond (is_by (enabler_of cell) p) 1 0)
in_cell p None = refl
in_cell p (Some channel) = refl

pub input_recounted : (counts : List ℕ) (inputs : List InputLink) (channels : List (Option Channel)) (k : ℕ)
    (old new : InputLink) → slice_get inputs k ≡ Some old → AreCounts counts inputs channels
    → AreCounts (handed_over old.enabled new.enabled counts) (slice_set inputs k new) channels
input_recounted counts inputs channels k old new there counted = record {
  each = λ p within.
      let inside : p < length counts = omega (arith, handed-length old.enabled new.enabled counts) in
      let test = λ (link : InputLink). is_by link.enabled p in
      recounted counts p old.enabled new.enabled (enabled_count p inputs channels)
      (enabled_count p (slice_set inputs k new) channels) inside (counted.each p inside)
      (omega (arith, one_of_count test inputs k old there))
      (omega (arith, count_after_set test inputs k old new there));
}

pub channel_recounted : (counts : List ℕ) (inputs : List InputLink) (channels : List (Option Channel)) (k : ℕ)
    (old new : Option Channel) → slice_get channels k ≡ Some old → AreCounts counts inputs channels
    → AreCounts (handed_over (enabler_of old) (enabler_of new) counts) inputs (slice_set channels k new)
channel_recounted counts inputs channels k old new there counted = record {
  each = λ p within.
      let inside : p < length counts = omega (arith, handed-length (enabler_of old) (enabler_of new) counts) in
      let test = λ (cell : Option Channel). elim cell as (λ x. Bool) [
        | None ↦ false
        | Some channel ↦ is_by channel.enabled p
      ] in
      recounted counts p (enabler_of old) (enabler_of new) (enabled_count p inputs channels)
      (enabled_count p inputs (slice_set channels k new)) inside (counted.each p inside)
      (omega (arith, one_of_count test channels k old there, in_cell p old))
      (omega (arith, count_after_set test channels k old new there, in_cell p old, in_cell p new));
}

-- no count is too large for one more
pub has_room : (counts : List ℕ) (inputs : List InputLink) (channels : List (Option Channel))
    (before after : Option ℕ) → AreCounts counts inputs channels → length inputs ≡ 4 → length channels < 2 ^ 63
    → IfSome after (λ p. slice_index (one_fewer before counts) p + 1 < 2 ^ 64)
has_room counts inputs channels before None counted four short = tt
has_room counts inputs channels before (Some p) counted four short =
    ⊎_elim (λ (within : p < length counts).
    let links = count_by-le-length (λ (link : InputLink). is_by link.enabled p) inputs in
    let cells = count_by-le-length (λ (cell : Option Channel). elim cell as (λ x. Bool) [
      | None ↦ false
      | Some channel ↦ is_by channel.enabled p
    ]) channels in
    omega (arith, at_fewer before counts p within, counted.each p within, links, cells))
    (λ (past : length counts ≤ p).
    omega (arith, get_or_past (one_fewer before counts) p 0 (omega (arith, fewer-length before counts))))
    (cases_lt p (length counts))

-- a process that is counted has something enabled if its count is not 0
either_positive : (a b : ℕ) (x y : Bool) → x ≡ nat_lt 0 a → y ≡ nat_lt 0 b → nat_lt 0 (a + b) ≡ (x || y)
either_positive a b x y p q = grind (arith, common_steps)

pub enabled_by_count : (counts : List ℕ) (inputs : List InputLink) (channels : List (Option Channel)) (p n : ℕ)
    → AreCounts counts inputs channels → slice_get counts p ≡ Some n
    → nat_lt 0 n ≡ (list_any (λ (link : InputLink). is_by link.enabled p) inputs
    || list_any (λ cell. elim cell [ None ↦ false | Some channel ↦ is_by channel.enabled p ]) channels)
enabled_by_count counts inputs channels p n counted there =
    let within : p < length counts = slice_get_within counts p n there in
    let is_count : n ≡ enabled_count p inputs channels =
    sym (get_or_from_slice_get counts p n 0 there) ∙ counted.each p within in
    ap (nat_lt 0) is_count
    ∙ either_positive _ _ _ _ (any_is_positive (λ (link : InputLink). is_by link.enabled p) inputs)
    (any_is_positive (λ (cell : Option Channel). elim cell as (λ x. Bool) [
      | None ↦ false
      | Some channel ↦ is_by channel.enabled p
    ]) channels)

-- nothing is enabled when a module is loaded
none_pass : {X : Type 0} (test : X → Bool) (x : X) (n : ℕ) → test x ≡ false → count_by test (replicate n x) ≡ 0
none_pass test x n fails = grind (arith, common_steps)

pub alone : (p : ℕ) → slice_index (0 ∷ []) p ≡ 0
alone zero = refl
alone (suc p) = refl

pub none_enabled : (quiet : InputLink) (n p : ℕ) → quiet.enabled ≡ None
    → enabled_count p (replicate 4 quiet) (replicate n None) ≡ 0
none_enabled quiet n p nobody =
    let links : count_by (λ (link : InputLink). is_by link.enabled p) (replicate 4 quiet) ≡ 0 =
    none_pass (λ (link : InputLink). is_by link.enabled p) quiet 4 (ap (λ e. is_by e p) nobody) in
    let cells : count_by (λ (cell : Option Channel). elim cell as (λ x. Bool) [
      | None ↦ false
      | Some channel ↦ is_by channel.enabled p
    ]) (replicate n None) ≡ 0 =
    none_pass (λ (cell : Option Channel). elim cell as (λ x. Bool) [
      | None ↦ false
      | Some channel ↦ is_by channel.enabled p
    ]) None n refl in
    omega (arith, links, cells)

pub root_counted : (quiet : InputLink) (n : ℕ) → quiet.enabled ≡ None
    → AreCounts (0 ∷ []) (replicate 4 quiet) (replicate n None)
root_counted quiet n nobody = record { each = λ p within. alone p ∙ sym (none_enabled quiet n p nobody) }
