-- What the entries of a label say of words: they rise, and a search finds the one that is about a word.
use Rattle.std.proofs.Common.{◌≡◌, ℕ, zero, suc, ◌<◌, ◌≤◌, ℤ, pos, ◌+ℤ◌, ◌≤ℤ◌, ◌<ℤ◌, Bool, true, false, ◌&&◌, ◌||◌, not}
use Rattle.std.proofs.Common.{List}
use Rattle.std.proofs.Common.{[], ◌∷◌, length, get_or, Some, find, refl, sym, subst, arith, int_le, int_lt}
use Rattle.std.specs.Prelude.{◌==◌}
use Rattle.std.specs.List.{AllByRecursion, list_any}
use Rattle.std.specs.List.Sorted.{IsPartitionPoint}
use Rattle.std.proofs.Math.Bool.{and-false}
use Rattle.std.proofs.lemmas.Int.{ints}
use Rattle.small_laws.proofs.Comparisons.{int_le-false, int_le-true, le-int_le, lt-int_lt}
use Rattle.module_format.specs.Rows.{Entry}
use Rattle.module_format.specs.declared.rows.ChannelRow.{ChannelRow}
use Rattle.module_format.specs.Contents.{Contents, Par, Label, label_at}
use Rattle.module_format.specs.Facts.{EntryKeeps, behind_entry, end_of, LabelKeeps, behind_label}
use Rattle.module_format.specs.Order.{InOrder, least_word}
use Rattle.module_format.specs.Keeping.{Keeps}
use Rattle.module_format.proofs.OrderLaws.{each}
use Rattle.certificate.specs.Starting.{is_unknown, is_about, says_of_word, says_of_hidden, EntryBegins, EntriesRise}

-- ---- the entries of a label rise

order_kept : (code_len : ℕ) (low : ℤ) (es : List Entry) → InOrder (EntryKeeps code_len) behind_entry low es
    → InOrder EntryBegins behind_entry low es
order_kept code_len low [] h = tt
order_kept code_len low (e ∷ es) h = (h.0.apart, order_kept code_len (end_of e) es h.1)

found_item : {X : Type 0} (P : X → Type 0) (test : X → Bool) (xs : List X) (x : X) → AllByRecursion P xs
    → find test xs ≡ Some x → P x
found_item P test [] x h is = absurd cc
found_item {X} P test (y ∷ xs) x h is = elim (test y) as (λ b. test y ≡ b → P x) [
  | true ↦ λ e. let here : Some y ≡ Some x = rw e at is in let same : y ≡ x = cc in subst P same h.0
  | false ↦ λ e. found_item P test xs x h.1 (rw e at is)
] refl

-- those of a module's label do
pub label_rises : (c : Contents) (at : ℕ) (t : Label) → Keeps c → label_at c at ≡ Some t → EntriesRise t.entries
label_rises c at t keeps is =
    let rows = each (LabelKeeps (length c.code) c.procedures) behind_label (λ (row : Label). EntriesRise row.entries)
    (λ low row h.
    record { low = least_word; order = order_kept (length c.code) least_word row.entries h.facts.entries })
    0 c.labels keeps.rows.labels in
    found_item (λ (row : Label). EntriesRise row.entries) (λ (row : Label). row.offset == at) c.labels t rows is

-- ---- the entry of a word

end_above : (low : ℤ) (es : List Entry) (n : ℕ) (d : Entry) → InOrder EntryBegins behind_entry low es → n < length es
    → low ≤ℤ end_of (get_or es n d)
end_above low [] n d h lt = absurd (omega arith)
end_above low (e ∷ es) zero d h lt = let begins = h.0 in omega (arith, ints)
end_above low (e ∷ es) (suc n) d h lt =
    let begins = h.0 in
    let later = end_above (end_of e) es n d h.1 (omega arith) in
    omega (arith, ints)

ends_rise : (low : ℤ) (es : List Entry) (d : Entry) → InOrder EntryBegins behind_entry low es → (i j : ℕ) → i ≤ j
    → j < length es → end_of (get_or es i d) ≤ℤ end_of (get_or es j d)
ends_rise low [] d h i j le lt = absurd (omega arith)
ends_rise low (e ∷ es) d h zero zero le lt = omega (arith, ints)
ends_rise low (e ∷ es) d h (suc i) zero le lt = absurd (omega arith)
ends_rise low (e ∷ es) d h zero (suc j) le lt = end_above (end_of e) es j d h.1 (omega arith)
ends_rise low (e ∷ es) d h (suc i) (suc j) le lt = ends_rise (end_of e) es d h.1 i j (omega arith) (omega arith)

-- the entries before a word are the first ones
pub entries_parted : (k low : ℤ) (es : List Entry) (d : Entry) → InOrder EntryBegins behind_entry low es → (i j : ℕ)
    → i ≤ j → j < length es → int_le (end_of (get_or es j d)) k ≡ true → int_le (end_of (get_or es i d)) k ≡ true
entries_parted k low es d h i j le lt e =
    let rise = ends_rise low es d h i j le lt in
    let last = int_le-true (end_of (get_or es j d)) k e in
    le-int_le (end_of (get_or es i d)) k (omega (arith, ints))

says_nothing : (k : ℤ) (e : Entry) → is_about e k ≡ false → says_of_word k e ≡ false
says_nothing k e none = rw (none, and-false (not (is_unknown e.fact))) refl

after_word : (k low : ℤ) (es : List Entry) → InOrder EntryBegins behind_entry low es → k <ℤ low
    → list_any (says_of_word k) es ≡ false
after_word k low [] h lt = refl
after_word k low (e ∷ es) h lt =
    let begins = h.0 in
    let none : is_about e k ≡ false = grind (arith, ints) in
    let later : k <ℤ end_of e = omega (arith, ints) in
    rw (says_nothing k e none) (after_word k (end_of e) es h.1 later)

before_word : (k : ℤ) (e : Entry) → int_le (end_of e) k ≡ true → says_of_word k e ≡ false
before_word k e past =
    let le = int_le-true (end_of e) k past in
    let none : is_about e k ≡ false = grind (arith, ints) in
    says_nothing k e none

only_one : (a b : Bool) → (a && b) ≡ ((a && (b && true)) || false)
only_one true true = refl
only_one true false = refl
only_one false b = refl

module _ (k : ℤ) where
  one_says : (low : ℤ) (es : List Entry) (n : ℕ) (d : Entry) → InOrder EntryBegins behind_entry low es → n < length es
      → ((j : ℕ) → j < n → int_le (end_of (get_or es j d)) k ≡ true) → int_le (end_of (get_or es n d)) k ≡ false
      → (not (is_unknown (get_or es n d).fact) && int_le (get_or es n d).word k) ≡ list_any (says_of_word k) es
  one_says low [] n d h lt before here = absurd (omega arith)
  one_says low (e ∷ es) zero d h lt before here =
      let past = int_le-false (end_of e) k here in
      let within : int_lt k (e.word +ℤ pos e.span) ≡ true = lt-int_lt k (e.word +ℤ pos e.span) past in
      rw (within, after_word k (end_of e) es h.1 past) (only_one (not (is_unknown e.fact)) (int_le e.word k))
  one_says low (e ∷ es) (suc n) d h lt before here =
      rw (before_word k e (before 0 (omega arith)))
      (one_says (end_of e) es n d h.1 (omega arith) (λ j less. before (suc j) (omega arith)) here)

  -- the first entry that ends after the word decides
  pub found_says : (low : ℤ) (es : List Entry) (n : ℕ) (d : Entry) → InOrder EntryBegins behind_entry low es
      → n < length es
      → IsPartitionPoint (λ (e : Entry). int_le (end_of e) k ≡ true) (λ (e : Entry). int_le (end_of e) k ≡ false) es n
      → d ≡ get_or es n d → (not (is_unknown d.fact) && int_le d.word k) ≡ list_any (says_of_word k) es
  found_says low es n d h inside point at =
      subst (λ (e : Entry). (not (is_unknown e.fact) && int_le e.word k) ≡ list_any (says_of_word k) es) (sym at)
      (one_says low es n d h inside (λ j less. point.0 j d (omega arith) less) (point.1 n d (omega arith) inside))

  -- where all end before it, none says something of it
  pub none_says : (es : List Entry) (d : Entry) → ((j : ℕ) → j < length es → int_le (end_of (get_or es j d)) k ≡ true)
      → false ≡ list_any (says_of_word k) es
  none_says [] d past = refl
  none_says (e ∷ es) d past =
      rw (before_word k e (past 0 (omega arith))) (none_says es d (λ j lt. past (suc j) (omega arith)))

-- ---- the words of a block and of channels

none_any : {X : Type 0} (xs : List X) → list_any (λ (x : X). false) xs ≡ false
none_any [] = refl
none_any (x ∷ xs) = none_any xs

any_and : {X : Type 0} (b : Bool) (test : X → Bool) (xs : List X)
    → list_any (λ x. b && test x) xs ≡ (b && list_any test xs)
any_and true test xs = refl
any_and false test xs = none_any xs

or_moved : (a b x y : Bool) → ((a || b) || (x || y)) ≡ ((a || x) || (b || y))
or_moved true b x y = refl
or_moved false true true y = refl
or_moved false true false y = refl
or_moved false false x y = refl

any_or : {X : Type 0} (one other : X → Bool) (xs : List X)
    → list_any (λ x. one x || other x) xs ≡ (list_any one xs || list_any other xs)
any_or one other [] = refl
any_or one other (x ∷ xs) =
    rw (any_or one other xs) (or_moved (one x) (other x) (list_any one xs) (list_any other xs))

joined : (u a b l p q r : Bool)
    → ((((u && a) || p) || ((u && b) || q)) || ((u && l) || r)) ≡ ((u && (a || b || l)) || ((p || q) || r))
joined false a b l p q r = refl
joined true true b l p q r = refl
joined true false true l true q r = refl
joined true false false true true q r = refl
joined true false false false true q r = refl
joined true false true l false q r = refl
joined true false false true false true r = refl
joined true false false false false true r = refl
joined true false false l false false r = refl

-- asked word by word, or entry by entry, it is the same
pub hidden_tells : (par : Par) (es : List Entry)
    → ((list_any (says_of_word par.block) es || list_any (says_of_word (par.block +ℤ pos 1)) es)
    || list_any (λ (c : ChannelRow). list_any (says_of_word c.word) es) par.channels) ≡ list_any (says_of_hidden par) es
hidden_tells par [] = none_any par.channels
hidden_tells par (e ∷ es) =
    let some = not (is_unknown e.fact) in
    let rest = λ (c : ChannelRow). list_any (says_of_word c.word) es in
    rw (
      any_or (λ (c : ChannelRow). says_of_word c.word e) rest par.channels,
      any_and some (λ (c : ChannelRow). is_about e c.word) par.channels,
      ← (hidden_tells par es),
    ) (joined some (is_about e par.block) (is_about e (par.block +ℤ pos 1))
    (list_any (λ (c : ChannelRow). is_about e c.word) par.channels) (list_any (says_of_word par.block) es)
    (list_any (says_of_word (par.block +ℤ pos 1)) es) (list_any rest par.channels))
