-- A process that is not counted has nothing enabled.
use Rattle.std.proofs.Common.{◌≡◌, ℕ, ◌<◌, ◌≤◌, ◌&&◌, Bool, true, false, cond, List, [], ◌∷◌, ◌++◌}
use Rattle.std.proofs.Common.{length, Option, Some, None, slice_get, slice_set, refl, ◌∙◌, sym, arith}
use Rattle.std.proofs.Common.{length-append, replicate, ⊎_elim}
use Rattle.std.proofs.lemmas.Grind.{common_steps}
use Rattle.std.proofs.lemmas.Bool.{cases_lt, and_parts}
use Rattle.std.proofs.lemmas.List.{get_or_append_left, get_or-append_right}
use Rattle.machine_state.specs.declared.process.Channel.{Channel}
use Rattle.machine_state.specs.declared.link.InputLink.{InputLink}
use Rattle.machine_state.specs.Alternations.{is_by}
use Rattle.traffic.specs.EnabledCounts.{enabler_of, enabled_count, AreCounts, AreAll, is_counted, handed_over}
use Rattle.traffic.proofs.Counting.{count_after_set, handed-length, in_cell, alone, none_enabled}

another : (counts : List ℕ) (o : Option ℕ) (p : ℕ) → is_counted counts o ≡ true → length counts ≤ p
    → ◌≡◌ {A = ℕ} (cond (is_by o p) 1 0) 0
another counts None p counted past = refl
another counts (Some q) p counted past = grind (arith, common_steps)

pub all_after_input : (holds : Bool) (counts : List ℕ) (inputs : List InputLink) (channels : List (Option Channel))
    (k : ℕ) (old new : InputLink) → slice_get inputs k ≡ Some old → AreAll holds counts inputs channels
    → AreAll (holds && is_counted counts new.enabled) (handed_over old.enabled new.enabled counts)
    (slice_set inputs k new) channels
all_after_input holds counts inputs channels k old new there all = record {
  others = λ now p past.
      let before : length counts ≤ p = omega (arith, handed-length old.enabled new.enabled counts) in
      let parts = and_parts holds (is_counted counts new.enabled) now in
      let none : enabled_count p inputs channels ≡ 0 = all.others parts.0 p before in
      let unmoved = another counts new.enabled p parts.1 before in
      omega (arith, count_after_set (λ (link : InputLink). is_by link.enabled p) inputs k old new there);
}

pub all_after_channel : (holds : Bool) (counts : List ℕ) (inputs : List InputLink) (channels : List (Option Channel))
    (k : ℕ) (old new : Option Channel) → slice_get channels k ≡ Some old → AreAll holds counts inputs channels
    → AreAll (holds && is_counted counts (enabler_of new)) (handed_over (enabler_of old) (enabler_of new) counts)
    inputs (slice_set channels k new)
all_after_channel holds counts inputs channels k old new there all = record {
  others = λ now p past.
      let before : length counts ≤ p = omega (arith, handed-length (enabler_of old) (enabler_of new) counts) in
      let parts = and_parts holds (is_counted counts (enabler_of new)) now in
      let none : enabled_count p inputs channels ≡ 0 = all.others parts.0 p before in
      let unmoved = another counts (enabler_of new) p parts.1 before in
      let test = λ (cell : Option Channel). elim cell as (λ x. Bool) [
        | None ↦ false
        | Some channel ↦ is_by channel.enabled p
      ] in
      omega (arith, count_after_set test channels k old new there, in_cell p old, in_cell p new);
}

-- ---- one more process is counted

pub one_more_counted : (counts : List ℕ) (inputs : List InputLink) (channels : List (Option Channel))
    → AreAll true counts inputs channels → AreCounts counts inputs channels
    → AreCounts (counts ++ 0 ∷ []) inputs channels
one_more_counted counts inputs channels all counted = record {
  each = λ p within.
      ⊎_elim (λ (inside : p < length counts).
      get_or_append_left counts (0 ∷ []) 0 p inside ∙ counted.each p inside)
      (λ (past : length counts ≤ p).
      get_or-append_right counts (0 ∷ []) (length counts) p 0 refl past ∙ alone _ ∙ sym (all.others refl p past))
      (cases_lt p (length counts));
}

pub all_after_one_more : (holds : Bool) (counts : List ℕ) (inputs : List InputLink) (channels : List (Option Channel))
    → AreAll holds counts inputs channels → AreAll holds (counts ++ 0 ∷ []) inputs channels
all_after_one_more holds counts inputs channels all = record {
  others = λ now p past. all.others now p (omega (arith, length-append counts (0 ∷ [])));
}

pub root_is_all : (quiet : InputLink) (n : ℕ) → quiet.enabled ≡ None
    → AreAll true (0 ∷ []) (replicate 4 quiet) (replicate n None)
root_is_all quiet n nobody = record { others = λ now p past. none_enabled quiet n p nobody }
