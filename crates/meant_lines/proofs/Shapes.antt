-- Memory carries an environment whatever is known of ranges.
use Rattle.std.proofs.Common.{◌≡◌, ℕ, ◌+◌, ◌≤◌, suc, List, [], ◌∷◌, length, Option, Some, refl, sym, ap}
use Rattle.std.proofs.Common.{subst, ◌∙◌, ◌↔◌}
use Rattle.std.specs.Prelude.{slice_get}
use Rattle.word_arithmetic.specs.Range.{full}
use Rattle.machine_state.specs.Memory.{Memory}
use Rattle.scalar_ranges.specs.Entries.{Meaning, Scalar, Entry}
use Rattle.scalar_ranges.specs.Environments.{Held, Environment}
use Rattle.scalar_ranges.specs.Narrowing.{with_range}
use Rattle.scalar_ranges.specs.MoveLaws.{shape}
use Rattle.line_pieces.specs.Homes.{Home, Word}
use Rattle.meant_lines.specs.Carrying.{Ground, IsKeptThere, AreKept, words_held, start_of, end_of, Rise, IsInside}
use Rattle.meant_lines.specs.Carrying.{AreInside}
use Rattle.meant_lines.specs.CarryingLaws.{SameShapesCarry}

-- a meaning whose range is not known
abbrev bare : Meaning → Meaning
bare k = with_range (λ r. full) k

bare_kept : (g : Ground) (m : Memory) (o : Option Home) (k : Meaning) (held : Held)
    → IsKeptThere g m o k held ↔ IsKeptThere g m o (bare k) held
bare_kept g m (Some h) (Scalar kind type range) held = (λ is. is, λ is. is)
bare_kept g m o k held = (λ is. is, λ is. is)

words_bare : (k : Meaning) → words_held (bare k) ≡ words_held k
words_bare (Scalar kind type range) = refl
words_bare k = refl

end_bare : (o : Option Home) (j k : Meaning) → bare j ≡ bare k → end_of o j ≡ end_of o k
end_bare (Some (Word w)) j k same = λ i. w + (sym (words_bare j) ∙ ap words_held same ∙ words_bare k) i
end_bare o j k same = refl

bare_inside : (words : ℕ) (o : Option Home) (k : Meaning) → IsInside words o k ↔ IsInside words o (bare k)
bare_inside words (Some (Word w)) (Scalar kind type range) = (λ inside. inside, λ inside. inside)
bare_inside words o k = (λ inside. inside, λ inside. inside)

heads : {A : Type 0} (x y : A) (xs ys : List A) → x ∷ xs ≡ y ∷ ys → x ≡ y
heads x y xs ys same = cc

tails : {A : Type 0} (x y : A) (xs ys : List A) → x ∷ xs ≡ y ∷ ys → xs ≡ ys
tails x y xs ys same = cc

shape_long : (es : List Entry) → length (shape es) ≡ length es
shape_long [] = refl
shape_long (e ∷ es) = ap suc (shape_long es)

-- the meanings of both first entries, and what is behind them
first_same : (e d : Entry) (es ds : List Entry) → shape (e ∷ es) ≡ shape (d ∷ ds) → bare e.meaning ≡ bare d.meaning
first_same e d es ds same =
    ap (λ (x : Entry). x.meaning) (heads (record { name = e.name; meaning = bare e.meaning })
    (record { name = d.name; meaning = bare d.meaning }) (shape es) (shape ds) same)

rest_same : (e d : Entry) (es ds : List Entry) → shape (e ∷ es) ≡ shape (d ∷ ds) → shape es ≡ shape ds
rest_same e d es ds same =
    tails (record { name = e.name; meaning = bare e.meaning }) (record { name = d.name; meaning = bare d.meaning })
    (shape es) (shape ds) same

as_many : (es ds : List Entry) → shape es ≡ shape ds → length es ≡ length ds
as_many es ds same = sym (shape_long es) ∙ ap length same ∙ shape_long ds

pub same_kept : (g : Ground) (m : Memory) (es ds : List Entry) (env : Environment) → shape es ≡ shape ds
    → AreKept g m es env → AreKept g m ds env
same_kept g m [] [] env same kept = kept
same_kept g m [] (d ∷ ds) env same kept = absurd (cc)
same_kept g m (e ∷ es) [] env same kept = absurd (cc)
same_kept g m (e ∷ es) (d ∷ ds) [] same kept = absurd kept
same_kept g m (e ∷ es) (d ∷ ds) (b ∷ bs) same kept =
    let rest = rest_same e d es ds same in (
      (bare_kept g m (slice_get g.homes (length ds)) d.meaning b.held).1
          (subst (λ (k : Meaning). IsKeptThere g m (slice_get g.homes (length ds)) k b.held) (first_same e d es ds same)
          (subst (λ (n : ℕ). IsKeptThere g m (slice_get g.homes n) (bare e.meaning) b.held) (as_many es ds rest)
          ((bare_kept g m (slice_get g.homes (length es)) e.meaning b.held).0 kept.0))),
      same_kept g m es ds bs rest kept.1,
    )

same_rise : (hs : List Home) (es ds : List Entry) (top : ℕ) → shape es ≡ shape ds → Rise hs es top → Rise hs ds top
same_rise hs [] [] top same rise = rise
same_rise hs [] (d ∷ ds) top same rise = absurd (cc)
same_rise hs (e ∷ es) [] top same rise = absurd (cc)
same_rise hs (e ∷ es) (d ∷ ds) top same rise =
    let rest = rest_same e d es ds same in
    let long = as_many es ds rest in (
      subst (λ (n : ℕ). n ≤ top) (end_bare (slice_get hs (length ds)) e.meaning d.meaning (first_same e d es ds same))
          (subst (λ (n : ℕ). end_of (slice_get hs n) e.meaning ≤ top) long rise.0),
      subst (λ (n : ℕ). Rise hs ds (start_of (slice_get hs n) top)) long
          (same_rise hs es ds (start_of (slice_get hs (length es)) top) rest rise.1),
    )

inside_bare : (words : ℕ) (o : Option Home) (j k : Meaning) → bare j ≡ bare k → IsInside words o j → IsInside words o k
inside_bare words o j k same inside =
    (bare_inside words o k).1 (subst (IsInside words o) same ((bare_inside words o j).0 inside))

same_inside : (words : ℕ) (hs : List Home) (es ds : List Entry) → shape es ≡ shape ds → AreInside words hs es
    → AreInside words hs ds
same_inside words hs [] [] same inside = inside
same_inside words hs [] (d ∷ ds) same inside = absurd (cc)
same_inside words hs (e ∷ es) [] same inside = absurd (cc)
same_inside words hs (e ∷ es) (d ∷ ds) same inside =
    let rest = rest_same e d es ds same in (
      inside_bare words (slice_get hs (length ds)) e.meaning d.meaning (first_same e d es ds same)
          (subst (λ (n : ℕ). IsInside words (slice_get hs n) e.meaning) (as_many es ds rest) inside.0),
      same_inside words hs es ds rest inside.1,
    )

pub same_shapes_carry : SameShapesCarry
same_shapes_carry g top es ds env m same carries = record {
  frame = carries.frame;
  kept = same_kept g m es ds env same carries.kept;
  rise = same_rise g.homes es ds top same carries.rise;
  room = same_inside g.words g.homes es ds same carries.room;
  counted = carries.counted;
  tables = carries.tables;
}
