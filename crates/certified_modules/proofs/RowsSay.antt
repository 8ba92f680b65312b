-- What a row tells of words, by its entries.
use Rattle.std.proofs.Common.{◌≡◌, ◌⊎◌, ℕ, ◌+◌, ◌<◌, ◌≤◌, pos, ◌+ℤ◌, Bool, true, false, List}
use Rattle.std.proofs.Common.{[], ◌∷◌, ◌++◌, int_le, int_lt, inl, inr, refl, sym, ap, ◌∙◌, arith}
use Rattle.std.specs.Prelude.{map}
use Rattle.std.proofs.lemmas.Int.{ints}
use Rattle.states.specs.State.{Facts, by_itself, said_of, is_about}
use Rattle.rulings.proofs.Entering.{first_word, entry_here, entry_later}
use Rattle.code_pieces.specs.declared.piece.RowEntry.{RowEntry}
use Rattle.certified_modules.specs.RowsSay.{IsSaid, fact_said, entry_said, Implies}
use Rattle.certified_modules.specs.RowsSay.{RowsTellTheirEntries, RowsTellNothingElse, ImplyingIsOfEntries}
use Rattle.certified_modules.specs.RowsSay.{LoopsAreEnteredAmongOthers, RowsStayImplied, block, other}
use Rattle.code_pieces.specs.declared.piece.WordFact.{WordFact as RowFact}
use Rattle.code_pieces.specs.declared.piece.WordFact.TheVariants.{Between, Turning}
use Rattle.module_format.specs.declared.fact.Fact.TheVariants.{Number}
use Rattle.states.specs.Below.{implies}
use Rattle.states.specs.declared.known.WordFact.{WordFact}

about_here : (weights : ℕ → ℕ) (e : RowEntry) (n : ℕ) → n < e.span
    → is_about (entry_said weights e) (pos (e.word + n)) ≡ true
about_here weights e n within =
    let low : int_le (pos e.word) (pos (e.word + n)) ≡ true = grind (arith, ints) in
    let high : int_lt (pos (e.word + n)) (pos e.word +ℤ pos e.span) ≡ true = grind (arith, ints) in
    rw (low, high) refl

not_about : (weights : ℕ → ℕ) (e : RowEntry) (k : ℕ) → (k < e.word) ⊎ (e.word + e.span ≤ k)
    → is_about (entry_said weights e) (pos k) ≡ false
not_about weights e k (inl before) =
    let low : int_le (pos e.word) (pos k) ≡ false = grind (arith, ints) in
    rw low refl
not_about weights e k (inr behind) =
    let low : int_le (pos e.word) (pos k) ≡ true = grind (arith, ints) in
    let high : int_lt (pos k) (pos e.word +ℤ pos e.span) ≡ false = grind (arith, ints) in
    rw (low, high) refl

pub rows_tell_their_entries : RowsTellTheirEntries
rows_tell_their_entries weights [] rest e n within none =
    entry_here (entry_said weights e) (map (entry_said weights) rest) (pos (e.word + n))
    (about_here weights e n within)
    ∙ ap (λ (b : Bool). said_of (fact_said weights e.fact) b)
    (sym (first_word (pos e.word) (pos (e.word + n)) n (omega (arith, ints))))
rows_tell_their_entries weights (d ∷ front) rest e n within none =
    entry_later (entry_said weights d) (map (entry_said weights) (front ++ e ∷ rest)) (pos (e.word + n))
    (not_about weights d (e.word + n) none.0)
    ∙ rows_tell_their_entries weights front rest e n within none.1

pub rows_tell_nothing_else : RowsTellNothingElse
rows_tell_nothing_else weights [] k none = refl
rows_tell_nothing_else weights (e ∷ es) k none =
    entry_later (entry_said weights e) (map (entry_said weights) es) (pos k) (not_about weights e k none.0)
    ∙ rows_tell_nothing_else weights es k none.1

implies_front : (weights : ℕ → ℕ) (f : Facts) (es ds : List RowEntry) → Implies weights f (es ++ ds)
    → Implies weights f es
implies_front weights f [] ds all = tt
implies_front weights f (e ∷ es) ds all = (all.0, implies_front weights f es ds all.1)

implies_back : (weights : ℕ → ℕ) (f : Facts) (es ds : List RowEntry) → Implies weights f (es ++ ds)
    → Implies weights f ds
implies_back weights f [] ds all = all
implies_back weights f (e ∷ es) ds all = implies_back weights f es ds all.1

implies_both : (weights : ℕ → ℕ) (f : Facts) (es ds : List RowEntry) → Implies weights f es → Implies weights f ds
    → Implies weights f (es ++ ds)
implies_both weights f [] ds first second = second
implies_both weights f (e ∷ es) ds first second = (first.0, implies_both weights f es ds first.1 second)

pub implying_is_of_entries : ImplyingIsOfEntries
implying_is_of_entries = record { front = implies_front; back = implies_back; both = implies_both }

pub loops_are_entered_among_others : LoopsAreEnteredAmongOthers
loops_are_entered_among_others weights f head count [] rest e before is after = block is after
loops_are_entered_among_others weights f head count (d ∷ front) rest e before is after =
    other before.0 (loops_are_entered_among_others weights f head count front rest e before.1 is after)

said_stays : (weights : ℕ → ℕ) (old new : Facts) (top word span : ℕ) (fact : RowFact) → word + span ≤ top
    → ((k : ℕ) → k < top → new (pos k) ≡ old (pos k)) → IsSaid weights old word span fact
    → IsSaid weights new word span fact
said_stays weights old new top word span (Between lo hi) few stay is =
    λ n within. ap (λ (w : WordFact). implies (by_itself w) (Number lo hi))
    (stay (word + n) (omega (arith, few, within)))
    ∙ is n within
said_stays weights old new top word span (Turning head base count) few stay is = (
  is.0,
  stay word (omega (arith, few, is.0)) ∙ is.1,
  stay (word + 1) (omega (arith, few, is.0)) ∙ is.2,
)

pub rows_stay_implied : RowsStayImplied
rows_stay_implied weights old new top [] few stay all = tt
rows_stay_implied weights old new top (e ∷ es) few stay all = (
  said_stays weights old new top e.word e.span e.fact few.0 stay all.0,
  rows_stay_implied weights old new top es few.1 stay all.1,
)
