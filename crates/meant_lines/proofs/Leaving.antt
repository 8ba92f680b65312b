-- The outermost names are carried where a scope is left, and a loop's index where its block has other words.
use Rattle.std.proofs.Common.{◌≡◌, ℕ, zero, suc, ◌+◌, ◌<◌, ◌≤◌, ℤ, Bool, true, false, cond, nat_eq, nat_lt, List, []}
use Rattle.std.proofs.Common.{◌∷◌, ◌++◌, length, Option, Some, None, refl, sym, ap, subst, arith}
use Rattle.std.specs.Prelude.{slice_get, if◌then◌else◌}
use Rattle.std.proofs.lemmas.Bool.{ltb-true, eqb-true, eq-eqb}
use Rattle.machine_state.specs.Memory.{Memory}
use Rattle.scalar_ranges.specs.Entries.{Meaning, Constant, Scalar, Array, Channel, Channels, Procedure, Entry}
use Rattle.scalar_ranges.specs.Environments.{Held, Nothing, One, Many, Binding, Environment}
use Rattle.scalar_ranges.specs.Moves.{outermost}
use Rattle.scalar_ranges.specs.declared.scope.ScalarKind.{ScalarKind}
use Rattle.occam_parser.specs.declared.tree.ValueType.{ValueType}
use Rattle.word_arithmetic.specs.Range.{Ends}
use Rattle.line_pieces.specs.Homes as home
use Rattle.line_pieces.specs.Homes.{Home, Nowhere, Word, Block, Link, Passed}
use Rattle.meant_lines.specs.Words.{Holds}
use Rattle.meant_lines.specs.Carrying.{Ground, IsScalarKept, IsKeptThere, AreKept, start_of, end_of, Rise}
use Rattle.meant_lines.specs.Carrying.{Carries}
use Rattle.meant_lines.specs.Opening.{BeginningsAreCarried, WordlessNamesAreCarried}
use Rattle.meant_lines.specs.Opening.{BlocksAreCarried, OutermostAreCarried, OtherTurnsAreCarried}
use Rattle.meant_lines.proofs.Carrying.{outer_words_stay, starts_before, ends_inside}
use Rattle.meant_lines.proofs.Declaring.{option_there, array_there, new_names_are_carried}
use Rattle.meant_lines.proofs.Shapes.{same_kept}
use Rattle.meant_lines.proofs.Words.{all_alike}

-- ---- where a module begins

pub beginnings_are_carried : BeginningsAreCarried
beginnings_are_carried g m frame tables =
    record { frame = frame; kept = tt; rise = tt; room = tt; counted = omega arith; tables = tables }

pub wordless_names_are_carried : WordlessNamesAreCarried
wordless_names_are_carried g top es env name k held h m meets long ends starts there carries =
    new_names_are_carried g top top es env name k held h m m meets long (omega (arith, ends)) (omega (arith, starts))
    carries.counted (ends_inside g.words (Some h) k (omega (arith, ends))) (all_alike top g.words m) there carries

-- ---- homes behind others

get_front : (hs more : List Home) (i : ℕ) → i < length hs → slice_get (hs ++ more) i ≡ slice_get hs i
get_front [] more i less = absurd (omega (arith, less))
get_front (h ∷ hs) more zero less = refl
get_front (h ∷ hs) more (suc i) less = get_front hs more i (omega (arith, less))

module _ (g : Ground) (more : List Home) (m : Memory) where
  abbrev longer : Ground
  longer = record g { homes = g.homes ++ more }

  kept_long : (es : List Entry) (env : Environment) → AreKept longer m es env → length env ≡ length es
  kept_long [] [] kept = refl
  kept_long [] (b ∷ bs) kept = absurd kept
  kept_long (e ∷ es) [] kept = absurd kept
  kept_long (e ∷ es) (b ∷ bs) kept = ap suc (kept_long es bs kept.1)

  -- names whose homes are not behind
  front_kept : (es : List Entry) (env : Environment) → length es ≤ length g.homes → AreKept longer m es env
      → AreKept g m es env
  front_kept [] [] less kept = tt
  front_kept [] (b ∷ bs) less kept = absurd kept
  front_kept (e ∷ es) [] less kept = absurd kept
  front_kept (e ∷ es) (b ∷ bs) less kept = (
    option_there longer g.homes m (slice_get g.homes (length es)) e.meaning b.held
        (subst (λ (o : Option Home). IsKeptThere longer m o e.meaning b.held)
        (get_front g.homes more (length es) (omega (arith, less))) kept.0),
    front_kept es bs (omega (arith, less)) kept.1,
  )

  outermost_by : (t : Bool) (e : Entry) (es : List Entry) (b : Binding) (bs : Environment)
      → nat_lt (length es) (length g.homes) ≡ t → AreKept longer m (e ∷ es) (b ∷ bs)
      → AreKept g m (outermost (length g.homes) es) (outermost (length g.homes) bs)
      → AreKept g m (cond t (e ∷ es) (outermost (length g.homes) es)) (cond t (b ∷ bs) (outermost (length g.homes) bs))
  outermost_by true e es b bs test kept further =
      front_kept (e ∷ es) (b ∷ bs) (let less = ltb-true (length es) (length g.homes) test in omega (arith, less)) kept
  outermost_by false e es b bs test kept further = further

  outermost_kept : (es : List Entry) (env : Environment) → AreKept longer m es env
      → AreKept g m (outermost (length g.homes) es) (outermost (length g.homes) env)
  outermost_kept [] [] kept = tt
  outermost_kept [] (b ∷ bs) kept = absurd kept
  outermost_kept (e ∷ es) [] kept = absurd kept
  outermost_kept (e ∷ es) (b ∷ bs) kept =
      subst (λ (n : ℕ). AreKept g m (outermost (length g.homes) (e ∷ es))
      (cond (nat_lt n (length g.homes)) (b ∷ bs) (outermost (length g.homes) bs))) (sym (kept_long es bs kept.1))
      (outermost_by (nat_lt (length es) (length g.homes)) e es b bs refl kept (outermost_kept es bs kept.1))

pub outermost_are_carried : OutermostAreCarried
outermost_are_carried g more top inner es ds env m counted room rise same carries = record {
  frame = record {
    workspace = carries.frame.workspace;
    few = carries.frame.few;
    inside = carries.frame.inside;
  };
  kept = same_kept g m (outermost (length g.homes) es) ds (outermost (length g.homes) env) same
      (outermost_kept g more m es env carries.kept);
  rise = rise;
  room = room;
  counted = counted;
  tables = λ values reads fit. carries.tables values reads fit;
}

-- ---- other turns

module _ (g : Ground) (word : ℕ) (m : Memory) (old new : ℕ → ℤ) (same : (w : ℕ) → w < word → old w ≡ new w) where
  abbrev before : Ground
  before = record g { turns = old }

  abbrev after : Ground
  after = record g { turns = new }

  scalar_turned : (h : Home) (kind : ScalarKind) (type : ValueType) (range : Ends) (held : Held)
      → end_of (Some h) (Scalar kind type range) ≤ word → IsScalarKept before m h held → IsScalarKept after m h held
  scalar_turned Nowhere kind type range held ends is = absurd is
  scalar_turned (Word w) kind type range (One v) ends is = is
  scalar_turned (Word w) kind type range Nothing ends is = absurd is
  scalar_turned (Word w) kind type range (Many vs) ends is = absurd is
  scalar_turned (Block w head) kind type range (One v) ends is =
      (is.0, subst (Holds m (w + 1)) (same w (omega (arith, ends))) is.1)
  scalar_turned (Block w head) kind type range Nothing ends is = absurd is
  scalar_turned (Block w head) kind type range (Many vs) ends is = absurd is
  scalar_turned (Link number) kind type range held ends is = absurd is
  scalar_turned (home.Table values) kind type range held ends is = absurd is
  scalar_turned (Passed w) kind type range held ends is = absurd is

  home_turned : (o : Option Home) (k : Meaning) (held : Held) → end_of o k ≤ word → IsKeptThere before m o k held
      → IsKeptThere after m o k held
  home_turned None k held ends is = absurd is
  home_turned (Some h) (Scalar kind type range) held ends is = scalar_turned h kind type range held ends is
  home_turned (Some h) (Array kind type size range) held ends is =
      array_there before g.homes new m h type held is
  home_turned (Some h) (Constant type value) held ends is = tt
  home_turned (Some h) (Channel type) held ends is = tt
  home_turned (Some h) (Channels type size) held ends is = tt
  home_turned (Some h) (Procedure number) held ends is = tt

  -- the turns of blocks that end before a word are those of other grounds
  all_turned : (es : List Entry) (env : Environment) (top : ℕ) → top ≤ word → Rise g.homes es top
      → AreKept before m es env → AreKept after m es env
  all_turned [] [] top low rise kept = tt
  all_turned [] (b ∷ bs) top low rise kept = absurd kept
  all_turned (e ∷ es) [] top low rise kept = absurd kept
  all_turned (e ∷ es) (b ∷ bs) top low rise kept =
      let h : Option Home = slice_get g.homes (length es) in (
        home_turned h e.meaning b.held (let ends = rise.0 in omega (arith, ends, low)) kept.0,
        all_turned es bs (start_of h top) (starts_before h e.meaning top word rise.0 low) rise.1 kept.1,
      )

  turned : (top : ℕ) (es : List Entry) (env : Environment) → top ≤ word → Carries before top es env m
      → Carries after top es env m
  turned top es env low carries = record {
    frame = record {
      workspace = carries.frame.workspace;
      few = carries.frame.few;
      inside = carries.frame.inside;
    };
    kept = all_turned es env top low carries.rise carries.kept;
    rise = carries.rise;
    room = carries.room;
    counted = carries.counted;
    tables = λ values reads fit. carries.tables values reads fit;
  }

-- the turns of other blocks
other_turns : (g : Ground) (word w : ℕ) (n : ℤ) → w < word → (if nat_eq w word then n else g.turns w) ≡ g.turns w
other_turns g word w n less = by_test (nat_eq w word) refl
  where
    by_test : (t : Bool) → nat_eq w word ≡ t → cond t n (g.turns w) ≡ g.turns w
    by_test true test = let same = eqb-true w word test in absurd (omega (arith, same, less))
    by_test false test = refl

pub other_turns_are_carried : OtherTurnsAreCarried
other_turns_are_carried g top word n es env m low carries =
    turned g word m (λ w. if nat_eq w word then n else g.turns w) g.turns (λ w less. other_turns g word w n less) top
    es env low carries

-- ---- blocks of loops

own_turns : (g : Ground) (word : ℕ) (n : ℤ) → (if nat_eq word word then n else g.turns word) ≡ n
own_turns g word n = ap (λ (t : Bool). cond t n (g.turns word)) (eq-eqb word word refl)

pub blocks_are_carried : BlocksAreCarried
blocks_are_carried g top head es env name kind type range i n old new meets long room changes index turns carries =
    let stays = outer_words_stay g top top g.words es env old new meets (omega arith) (omega arith) changes carries in
    let inside : Ground = record g { turns = λ w. if nat_eq w top then n else g.turns w } in
    let other = turned g top new g.turns inside.turns (λ w less. sym (other_turns g top w n less)) top es env
    (omega arith) stays in
    new_names_are_carried inside top (top + 2) es env name (Scalar kind type range) (One i) (Block top head) new new
    meets long (omega arith) (omega arith) (let few = carries.frame.few in omega (arith, room, few)) room
    (all_alike top g.words new)
    (index, subst (Holds new (top + 1)) (sym (own_turns g top n)) turns) other
