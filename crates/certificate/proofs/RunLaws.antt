-- Runs of channels, made from the last one on.
use Rattle.std.proofs.Common.{◌≡◌, ℕ, zero, suc, ◌+◌, ◌<◌, ◌≤◌, ℤ, pos, true, false, List, length, get_or, arith, ◌^◌}
use Rattle.std.proofs.Common.{Bool, Option, Some, None, refl, sym, ap, subst, ◌∙◌, inl, inr}
use Rattle.std.proofs.Math.ListN.{set, length-set}
use Rattle.std.specs.Prelude.{◌+ℤ◌, ⊤, slice_get, MatchOption, if◌then◌else◌}
use Rattle.std.proofs.lemmas.Bool.{cases_eq}
use Rattle.std.proofs.lemmas.Int.{ints}
use Rattle.std.proofs.lemmas.List.{get_or-set_other}
use Rattle.std.proofs.lemmas.Grind.{get_or-set_at}
use Rattle.std.proofs.lemmas.Option.{slice_get_within, get_or_from_slice_get}
use Rattle.module_format.specs.declared.rows.EndKind.{EndKind}
use Rattle.module_format.specs.declared.rows.EndKind.TheVariants as ends
use Rattle.module_format.specs.declared.rows.EndRow.{EndRow}
use Rattle.module_format.specs.Order.{InOrder}
use Rattle.module_format.specs.Pars.{EndKeeps, behind_end, first_key, key_of}
use Rattle.certificate.specs.declared.runs.ChannelRun.{ChannelRun}
use Rattle.certificate.specs.Runs.{further, end_further, lists_end, word_length, held_further, IsFirstRun, AreRuns}
use Rattle.certificate.specs.Runs.{HasRun, IsCount}
use Rattle.certificate.specs.Rights.{is_same_end}
use Rattle.certificate.proofs.EndOrder.{found_listed, end_before, same_itself}

-- the ends from this one on have their runs, and no run goes further than the ends do
pub record AreRunsFrom (length_of : ℤ → Option ℕ) (listed : List EndRow) (runs : List ChannelRun)
    (from : ℕ) : Type 0 where
  pub many : length runs ≡ length listed
  pub few : (i : ℕ) (e : EndRow) (d : ChannelRun) → from ≤ i → slice_get listed i ≡ Some e
      → i + (get_or runs i d).count ≤ length listed
  pub each : (i : ℕ) (e : EndRow) (d : ChannelRun) → from ≤ i → slice_get listed i ≡ Some e
      → IsFirstRun (held_further (lists_end listed) length_of e) (get_or runs i d)

-- ---- channels further

further_none : (kind : EndKind) → further kind 0 ≡ kind
further_none (ends.FrameWord k) =
    let same : k +ℤ pos 0 ≡ k = omega (arith, ints) in ap (λ (z : ℤ). ends.FrameWord z) same
further_none (ends.Parameter j a) =
    let same : a + 0 ≡ a = omega arith in ap (λ (n : ℕ). ends.Parameter j n) same
further_none (ends.Link l) =
    let same : l + 0 ≡ l = omega arith in ap (λ (n : ℕ). ends.Link n) same

further_more : (kind : EndKind) (i : ℕ) → further kind (suc i) ≡ further (further kind 1) i
further_more (ends.FrameWord k) i =
    let same : k +ℤ pos (suc i) ≡ (k +ℤ pos 1) +ℤ pos i = omega (arith, ints) in ap (λ (z : ℤ). ends.FrameWord z) same
further_more (ends.Parameter j a) i =
    let same : a + suc i ≡ (a + 1) + i = omega arith in ap (λ (n : ℕ). ends.Parameter j n) same
further_more (ends.Link l) i =
    let same : l + suc i ≡ (l + 1) + i = omega arith in ap (λ (n : ℕ). ends.Link n) same

module _ (is_held : EndRow → Bool) (length_of : ℤ → Option ℕ) (e : EndRow) where
  abbrev of_kind : EndKind → Option (Option ℕ)
  of_kind kind =
      if is_held (record { kind = kind; direction = e.direction }) then Some (word_length length_of kind) else None

  held_here : is_held e ≡ true → held_further is_held length_of e 0 ≡ Some (word_length length_of e.kind)
  held_here is = ap of_kind (further_none e.kind) ∙ rw is refl

  held_next : (i : ℕ) → held_further is_held length_of e (suc i)
      ≡ held_further is_held length_of (end_further e 1) i
  held_next i = ap of_kind (further_more e.kind i)

  -- one channel alone
  one_alone : (len : Option ℕ) → held_further is_held length_of e 0 ≡ Some len
      → (held_further is_held length_of (end_further e 1) 0 ≡ Some len → ⊥)
      → IsFirstRun (held_further is_held length_of e) (record { count = 1; length = len })
  one_alone len here stops = record {
    some = omega arith;
    each = each;
    stops = λ is. stops (sym (held_next 0) ∙ is);
  }
    where
      each : (i : ℕ) → i < 1 → held_further is_held length_of e i ≡ Some len
      each zero lt = here
      each (suc i) lt = absurd (omega arith)

  -- one more before a run
  one_more : (run : ChannelRun) → held_further is_held length_of e 0 ≡ Some run.length
      → IsFirstRun (held_further is_held length_of (end_further e 1)) run
      → IsFirstRun (held_further is_held length_of e) (record { count = run.count + 1; length = run.length })
  one_more run here h = record {
    some = omega arith;
    each = each;
    stops = λ is. h.stops (sym (held_next run.count)
        ∙ ap (held_further is_held length_of e) (let at : suc run.count ≡ run.count + 1 = omega arith in at) ∙ is);
  }
    where
      each : (i : ℕ) → i < run.count + 1 → held_further is_held length_of e i ≡ Some run.length
      each zero lt = here
      each (suc i) lt = held_next i ∙ h.each i (omega arith)

module _ (length_of : ℤ → Option ℕ) (listed : List EndRow) (runs : List ChannelRun) (i : ℕ)
    (h : AreRunsFrom length_of listed runs (i + 1)) (e : EndRow) (here : slice_get listed i ≡ Some e) where
  -- an end whose run was set
  pub runs_set : (run : ChannelRun) → IsFirstRun (held_further (lists_end listed) length_of e) run
      → i + run.count ≤ length listed → AreRunsFrom length_of listed (set runs i run) i
  runs_set run right fewer = record {
    many = length-set runs i run ∙ h.many;
    few = λ j other d le is. elim (cases_eq j i) [
      | inl at ↦ rw (get_or-set_at runs i j run d at within) (omega arith)
      | inr ne ↦ rw (get_or-set_other runs i j run d ne) (h.few j other d (omega arith) is)
    ];
    each = λ j other d le is. elim (cases_eq j i) [
      | inl at ↦
          let both : Some e ≡ Some other = sym here ∙ ap (slice_get listed) (sym at) ∙ is in
          let same : e ≡ other = cc in
          rw (get_or-set_at runs i j run d at within)
          (subst (λ (x : EndRow). IsFirstRun (held_further (lists_end listed) length_of x) run) same right)
      | inr ne ↦ rw (get_or-set_other runs i j run d ne) (h.each j other d (omega arith) is)
    ];
  }
    where
      within : i < length runs
      within = let m = h.many in let w = slice_get_within listed i e here in omega arith

  -- the run of an end, of which the next channel's run is known
  module _ (order : InOrder EndKeeps behind_end first_key listed) where
    abbrev held : EndRow → ℕ → Option (Option ℕ)
    held = held_further (lists_end listed) length_of

    abbrev len : Option ℕ
    len = word_length length_of e.kind

    is_here : held e 0 ≡ Some len
    is_here = held_here (lists_end listed) length_of e
        (sym (found_listed (λ (x : EndRow). is_same_end (key_of x) (key_of e)) listed i (rw here (same_itself e))))

    pub run_here : (next : Option ChannelRun) (count : ℕ)
        → MatchOption next (lists_end listed (end_further e 1) ≡ false)
        (λ run. HasRun listed runs (end_further e 1) run)
        → MatchOption next (count ≡ 1) (λ run. IsCount len run count)
        → IsFirstRun (held e) (record { count = count; length = len }) × (i + count ≤ length listed)
    run_here None count none is =
        let inside = slice_get_within listed i e here in
        let stops : held (end_further e 1) 0 ≡ Some len → ⊥ =
        λ at. absurd (let no : None ≡ Some len = rw (further_none (further e.kind 1), none) at at in cc) in
        (rw is (one_alone (lists_end listed) length_of e len is_here stops), omega arith)
    run_here (Some run) count has is =
        let j = has.at in
        let behind = end_before listed i j e order here has.end in
        let found = get_or_from_slice_get runs j run run has.is in
        let right : IsFirstRun (held (end_further e 1)) run =
        subst (λ (r : ChannelRun). IsFirstRun (held (end_further e 1)) r) found
        (h.each j (end_further e 1) run (omega arith) has.end) in
        let few : j + run.count ≤ length listed =
        subst (λ (r : ChannelRun). j + r.count ≤ length listed) found
        (h.few j (end_further e 1) run (omega arith) has.end) in
        elim is [
          | inl longer ↦
              let one = one_more (lists_end listed) length_of e run
              (is_here ∙ ap (λ (o : Option ℕ). Some o) (sym longer.0)) right in
              (rw (longer.1, ← longer.0) one, let n = longer.1 in omega arith)
          | inr alone ↦
              let stops : held (end_further e 1) 0 ≡ Some len → ⊥ = λ at.
              let same : Some run.length ≡ Some len = sym (right.each 0 right.some) ∙ at in alone.0 cc in
              let inside = slice_get_within listed i e here in
              (rw alone.1 (one_alone (lists_end listed) length_of e len is_here stops), let n = alone.1 in omega arith)
        ]

    -- what a search for the next channel's run finds may be counted on from
    pub few_enough : length listed < 2 ^ 16 → (next : Option ChannelRun)
        → MatchOption next (lists_end listed (end_further e 1) ≡ false)
        (λ run. HasRun listed runs (end_further e 1) run)
        → MatchOption next ⊤ (λ run. run.count + 1 < 4294967296)
    few_enough few None none = tt
    few_enough few (Some run) has =
        let behind = end_before listed i has.at e order here has.end in
        let found = get_or_from_slice_get runs has.at run run has.is in
        let most : has.at + run.count ≤ length listed =
        subst (λ (r : ChannelRun). has.at + r.count ≤ length listed) found
        (h.few has.at (end_further e 1) run (omega arith) has.end)
        in
        omega arith

-- all have their runs
pub runs_all : (length_of : ℤ → Option ℕ) (listed : List EndRow) (runs : List ChannelRun)
    → AreRunsFrom length_of listed runs 0 → AreRuns length_of listed runs
runs_all length_of listed runs h = record { many = h.many; each = λ i e d is. h.each i e d (omega arith) is }

-- ---- the same lengths, and the same ends

pub run_same : (held other : ℕ → Option (Option ℕ)) (run : ChannelRun) → ((i : ℕ) → held i ≡ other i)
    → IsFirstRun held run → IsFirstRun other run
run_same held other run same h = record {
  some = h.some;
  each = λ i lt. sym (same i) ∙ h.each i lt;
  stops = λ is. h.stops (same run.count ∙ is);
}

same_word_length : (length_of other : ℤ → Option ℕ) → ((m : ℤ) → length_of m ≡ other m) → (kind : EndKind)
    → word_length length_of kind ≡ word_length other kind
same_word_length length_of other same (ends.FrameWord k) = same k
same_word_length length_of other same (ends.Parameter j a) = refl
same_word_length length_of other same (ends.Link l) = refl

pub runs_same : (length_of other : ℤ → Option ℕ) (listed : List EndRow) (runs : List ChannelRun)
    → ((m : ℤ) → length_of m ≡ other m) → AreRuns length_of listed runs → AreRuns other listed runs
runs_same length_of other listed runs same h = record {
  many = h.many;
  each = λ i e d is. run_same (held_further (lists_end listed) length_of e)
      (held_further (lists_end listed) other e) (get_or runs i d)
      (λ n. ap (λ (o : Option ℕ). if lists_end listed (end_further e n) then Some o else None)
      (same_word_length length_of other same (further e.kind n)))
      (h.each i e d is);
}
