-- What holds of each name of a scope, with homes more, and of the outermost names.
use Rattle.std.proofs.Common.{◌≡◌, ℕ, zero, suc, ◌<◌, ◌≤◌, Bool, true, false, cond, List, [], ◌∷◌, ◌++◌, length, Option}
use Rattle.std.proofs.Common.{Some, refl, sym, subst, arith, nat_lt}
use Rattle.std.proofs.lemmas.Bool.{ltb-true}
use Rattle.std.specs.Prelude.{slice_get}
use Rattle.scalar_ranges.specs.Entries.{Meaning, Entry}
use Rattle.scalar_ranges.specs.Moves.{outermost}
use Rattle.line_pieces.specs.Homes.{Home}
use Rattle.certified_lines.specs.Scopes.{EachNameHas}
use Rattle.meant_lines.proofs.Housing.{get_last}

pub get_front : (hs more : List Home) (i : ℕ) → i < length hs → slice_get (hs ++ more) i ≡ slice_get hs i
get_front [] more i less = absurd (omega (arith, less))
get_front (x ∷ hs) more zero less = refl
get_front (x ∷ hs) more (suc i) less = get_front hs more i (omega (arith, less))

-- homes behind
pub each_before : (P : Option Home → Meaning → Type 0) (hs more : List Home) (es : List Entry)
    → length es ≤ length hs → EachNameHas P hs es → EachNameHas P (hs ++ more) es
each_before P hs more [] few each = tt
each_before P hs more (e ∷ es) few each = (
  subst (λ (o : Option Home). P o e.meaning) (sym (get_front hs more (length es) (omega (arith, few)))) each.0,
  each_before P hs more es (omega (arith, few)) each.1,
)

-- a name more, at its home
pub each_with : (P : Option Home → Meaning → Type 0) (hs : List Home) (h : Home) (e : Entry) (es : List Entry)
    → length hs ≡ length es → P (Some h) e.meaning → EachNameHas P hs es → EachNameHas P (hs ++ h ∷ []) (e ∷ es)
each_with P hs h e es long here each = (
  subst (λ (o : Option Home). P o e.meaning) (sym (get_last hs h (length es) long)) here,
  each_before P hs (h ∷ []) es (omega (arith, long)) each,
)

-- of as few names as homes
each_front : (P : Option Home → Meaning → Type 0) (hs more : List Home) (es : List Entry) → length es ≤ length hs
    → EachNameHas P (hs ++ more) es → EachNameHas P hs es
each_front P hs more [] few each = tt
each_front P hs more (e ∷ es) few each = (
  subst (λ (o : Option Home). P o e.meaning) (get_front hs more (length es) (omega (arith, few))) each.0,
  each_front P hs more es (omega (arith, few)) each.1,
)

left_by : (t : Bool) (P : Option Home → Meaning → Type 0) (hs more : List Home) (e : Entry) (es : List Entry)
    → nat_lt (length es) (length hs) ≡ t → EachNameHas P (hs ++ more) (e ∷ es)
    → EachNameHas P hs (outermost (length hs) es)
    → EachNameHas P hs (cond t (e ∷ es) (outermost (length hs) es))
left_by true P hs more e es is each further =
    let less = ltb-true (length es) (length hs) is in
    each_front P hs more (e ∷ es) (omega (arith, less)) each
left_by false P hs more e es is each further = further

-- of the outermost names
pub each_left : (P : Option Home → Meaning → Type 0) (hs more : List Home) (es : List Entry)
    → EachNameHas P (hs ++ more) es → EachNameHas P hs (outermost (length hs) es)
each_left P hs more [] each = tt
each_left P hs more (e ∷ es) each =
    left_by (nat_lt (length es) (length hs)) P hs more e es refl each (each_left P hs more es each.1)

-- what follows for each from what holds
pub each_then : (P Q : Option Home → Meaning → Type 0) (hs : List Home) (es : List Entry)
    → ((o : Option Home) (k : Meaning) → P o k → Q o k) → EachNameHas P hs es → EachNameHas Q hs es
each_then P Q hs [] follows each = tt
each_then P Q hs (e ∷ es) follows each =
    (follows (slice_get hs (length es)) e.meaning each.0, each_then P Q hs es follows each.1)
