-- What memory carries where scopes are left and loops are open.
use Rattle.std.proofs.Common.{◌≡◌, ℕ, suc, ◌+◌, ◌<◌, ◌≤◌, ℤ, Bool, true, false, cond, List, [], ◌∷◌}
use Rattle.std.proofs.Common.{◌++◌, length, Option, Some, None, refl, sym, ap, subst, arith}
use Rattle.std.specs.Prelude.{nat_eq, nat_lt, slice_get}
use Rattle.std.proofs.lemmas.Bool.Decides.{nat_tests}
use Rattle.machine_state.specs.Memory.{Memory}
use Rattle.occam_parser.specs.declared.tree.ValueType.TheVariants as value_type
use Rattle.word_arithmetic.specs.Range.{Ends}
use Rattle.scalar_ranges.specs.declared.scope.ScalarKind.TheVariants as scalar
use Rattle.scalar_ranges.specs.Entries.{Array, Constant, Entry, Meaning, Scalar}
use Rattle.scalar_ranges.specs.Environments.{Environment, Held, Many, Meets, One}
use Rattle.scalar_ranges.specs.Moves.{outermost}
use Rattle.program_uses.specs.Declaring.{add}
use Rattle.program_meaning.specs.Storing.{bind}
use Rattle.code_pieces.specs.declared.words.TheConstants.{GREATEST_WORD}
use Rattle.line_pieces.specs.Homes as home
use Rattle.line_pieces.specs.Homes.{Block, Home, Nowhere, Word}
use Rattle.meant_lines.specs.Carrying.{AreInside, AreKept, Carries, Ground, HasFrame, IsKeptThere, Rise, end_of}
use Rattle.meant_lines.specs.Carrying.{start_of}
use Rattle.meant_lines.specs.Words.{Holds}
use Rattle.meant_lines.proofs.Words.{all_alike}
use Rattle.meant_lines.proofs.Declaring.{new_names_are_carried}
use Rattle.meant_processes.specs.Places.{Program, ground}

-- ---- the outermost names

kept_long : (g : Ground) (m : Memory) (es : List Entry) (env : Environment) → AreKept g m es env
    → length es ≡ length env
kept_long g m [] [] kept = refl
kept_long g m [] (b ∷ bs) kept = absurd kept
kept_long g m (e ∷ es) [] kept = absurd kept
kept_long g m (e ∷ es) (b ∷ bs) kept = ap suc (kept_long g m es bs kept.1)

kept_left : (n : ℕ) (g : Ground) (m : Memory) (es : List Entry) (env : Environment) → AreKept g m es env
    → AreKept g m (outermost n es) (outermost n env)
kept_left n g m [] [] kept = tt
kept_left n g m [] (b ∷ bs) kept = absurd kept
kept_left n g m (e ∷ es) [] kept = absurd kept
kept_left n g m (e ∷ es) (b ∷ bs) kept =
    subst (λ (i : ℕ). AreKept g m (cond (nat_lt (length es) n) (e ∷ es) (outermost n es))
    (cond (nat_lt i n) (b ∷ bs) (outermost n bs))) (kept_long g m es bs kept.1)
    (by_count (nat_lt (length es) n) (kept_left n g m es bs kept.1))
  where
    by_count : (inside : Bool) → AreKept g m (outermost n es) (outermost n bs)
        → AreKept g m (cond inside (e ∷ es) (outermost n es)) (cond inside (b ∷ bs) (outermost n bs))
    by_count true further = kept
    by_count false further = further

-- ---- other homes behind, and other turns of loops further in

module _ (p : Program) (homes others : List Home) (turns left : ℕ → ℤ) (m : Memory) where
  home_kept : (h : Option Home) (k : Meaning) (held : Held) (top : ℕ) → ((w : ℕ) → w < top → turns w ≡ left w)
      → end_of h k ≤ top → IsKeptThere (ground p homes turns) m h k held
      → IsKeptThere (ground p others left) m h k held
  home_kept None k held top same ends kept = absurd kept
  home_kept (Some (Block w head)) (Scalar kind type range) (One v) top same ends kept =
      (kept.0, subst (Holds m (w + 1)) (same w (omega (arith, ends))) kept.1)
  home_kept (Some (Word w)) (Scalar kind type range) (One v) top same ends kept = kept
  home_kept (Some h) (Scalar kind type range) held top same ends kept = absurd kept
  home_kept (Some (Word w)) (Array kind type size range) (Many vs) top same ends kept = kept
  home_kept (Some (home.Table values)) (Array kind type size range) (Many vs) top same ends kept =
      kept
  home_kept (Some h) (Array kind type size range) held top same ends kept = absurd kept
  home_kept (Some h) k held top same ends kept = tt

  starts_low : (h : Option Home) (k : Meaning) (top : ℕ) → end_of h k ≤ top → start_of h top ≤ top
  starts_low (Some (Word w)) k top ends = omega (arith, ends)
  starts_low (Some (Block w head)) k top ends = omega (arith, ends)
  starts_low h k top ends = omega arith

  -- The names that are left are kept in homes that are the same.
  all_kept : (es : List Entry) (env : Environment) (top : ℕ)
      → ((i : ℕ) → i < length es → slice_get others i ≡ slice_get homes i)
      → ((w : ℕ) → w < top → turns w ≡ left w) → Rise others es top → AreKept (ground p homes turns) m es env
      → AreKept (ground p others left) m es env
  all_kept [] [] top alike same rise kept = tt
  all_kept [] (b ∷ bs) top alike same rise kept = absurd kept
  all_kept (e ∷ es) [] top alike same rise kept = absurd kept
  all_kept (e ∷ es) (b ∷ bs) top alike same rise kept =
      let h = slice_get others (length es) in
      let low = starts_low h e.meaning top rise.0 in (
        home_kept h e.meaning b.held top same rise.0
            (subst (λ (o : Option Home). IsKeptThere (ground p homes turns) m o e.meaning b.held)
            (sym (alike (length es) (omega arith))) kept.0),
        all_kept es bs (start_of h top) (λ i less. alike i (omega (arith, less)))
            (λ w less. same w (omega (arith, less, low))) rise.1 kept.1,
      )

  frame_there : HasFrame (ground p homes turns) m → HasFrame (ground p others left) m
  frame_there f = record { workspace = f.workspace; few = f.few; inside = f.inside }

-- What the names of a scope hold is carried once those inside are left.
pub scope_left : (p : Program) (homes others : List Home) (turns left : ℕ → ℤ) (m : Memory) (n top inner : ℕ)
    (es all : List Entry) (env : Environment) → outermost n all ≡ es
    → ((i : ℕ) → i < length es → slice_get others i ≡ slice_get homes i)
    → ((w : ℕ) → w < top → turns w ≡ left w) → Rise others es top → AreInside p.words others es
    → top ≤ GREATEST_WORD
    → Carries (ground p homes turns) inner all env m → Carries (ground p others left) top es (outermost n env) m
scope_left p homes others turns left m n top inner es all env outer alike same rise room counted carries = record {
  frame = frame_there p homes others turns left m carries.frame;
  kept = all_kept p homes others turns left m es (outermost n env) top alike same rise
      (subst (λ (x : List Entry). AreKept (ground p homes turns) m x (outermost n env)) outer
      (kept_left n (ground p homes turns) m all env carries.kept));
  rise = rise;
  room = room;
  counted = counted;
  tables = carries.tables;
}

-- ---- the block of a loop

-- these turns are left of the loop with its block there
abbrev pub with_left : ℕ → ℤ → (ℕ → ℤ) → ℕ → ℤ
with_left word left turns w = cond (nat_eq w word) left (turns w)

pub left_here : (word : ℕ) (left : ℤ) (turns : ℕ → ℤ) → with_left word left turns word ≡ left
left_here word left turns =
    let here : nat_eq word word ≡ true = grind (arith, nat_tests) in ap (λ b. cond b left (turns word)) here

pub left_below : (word : ℕ) (left : ℤ) (turns : ℕ → ℤ) (w : ℕ) → w < word → turns w ≡ with_left word left turns w
left_below word left turns w less =
    let other : nat_eq w word ≡ false = grind (arith, nat_tests, less) in
    sym (ap (λ b. cond b left (turns w)) other)

-- With a loop's index in the first two words that are free, memory carries the environment with that index.
pub loop_opened : (p : Program) (homes : List Home) (turns : ℕ → ℤ) (top head : ℕ) (es : List Entry)
    (env : Environment) (name : List ℕ) (indices : Ends) (v left : ℤ) (m : Memory) → Meets env es
    → length homes ≡ length es → top + 2 ≤ p.words → Holds m top v → Holds m (top + 1) left
    → Carries (ground p homes turns) top es env m
    → Carries (ground p (homes ++ Block top head ∷ []) (with_left top left turns)) (top + 2)
    (add name (Scalar scalar.Index value_type.Int indices) es) (bind name (One v) env) m
loop_opened p homes turns top head es env name indices v left m meets long room index count carries =
    let g = ground p homes (with_left top left turns) in
    let again : Carries g top es env m = record {
      frame = frame_there p homes homes turns (with_left top left turns) m carries.frame;
      kept = all_kept p homes homes turns (with_left top left turns) m es env top (λ i less. refl)
          (left_below top left turns) carries.rise carries.kept;
      rise = carries.rise;
      room = carries.room;
      counted = carries.counted;
      tables = carries.tables;
    } in
    new_names_are_carried g top (top + 2) es env name (Scalar scalar.Index value_type.Int indices) (One v)
    (Block top head) m m meets long (omega arith) (omega arith)
    (let few = carries.frame.few in omega (arith, room, few)) room (all_alike top p.words m)
    (index, subst (Holds m (top + 1)) (sym (left_here top left turns)) count) again

-- The index of an IF has no word.
pub index_opened : (p : Program) (homes : List Home) (turns : ℕ → ℤ) (top : ℕ) (es : List Entry) (env : Environment)
    (name : List ℕ) (value : Option ℤ) (v : ℤ) (m : Memory) → Meets env es → length homes ≡ length es
    → Carries (ground p homes turns) top es env m
    → Carries (ground p (homes ++ Nowhere ∷ []) turns) top (add name (Constant value_type.Int value) es)
    (bind name (One v) env) m
index_opened p homes turns top es env name value v m meets long carries =
    new_names_are_carried (ground p homes turns) top top es env name (Constant value_type.Int value) (One v) Nowhere m m
    meets long (omega arith) (omega arith) carries.counted (omega arith) (all_alike top p.words m) tt carries
