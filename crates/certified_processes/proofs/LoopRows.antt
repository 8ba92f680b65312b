-- What the row at the head of a loop says of the loop, and the words that are stored before it.
use Rattle.std.proofs.Common.{◌≡◌, ℕ, ◌+◌, ◌<◌, ◌≤◌, ℤ, pos, ◌+ℤ◌, ◌-ℤ◌, Bool, false, cond, List, [], ◌∷◌}
use Rattle.std.proofs.Common.{◌++◌, length, reverse, Option, Some, None, refl, sym, ap, subst, ◌∙◌, arith, append_assoc}
use Rattle.std.specs.Prelude.{int_le, nat_eq, ◌&&◌}
use Rattle.std.specs.List.{AllByRecursion}
use Rattle.std.proofs.lemmas.Bool.Decides.{nat_tests}
use Rattle.std.proofs.lemmas.Int.{ints}
use Rattle.std.proofs.lemmas.List.{length-reverse}
use Rattle.small_laws.proofs.Comparisons.{eqb-self, le-int_le}
use Rattle.word_arithmetic.specs.Range.{Ends, IsRange}
use Rattle.word_arithmetic.specs.Word.{greatest_word, least_word}
use Rattle.module_format.specs.declared.fact.Fact.TheVariants.{Number}
use Rattle.module_format.specs.declared.limits.TheConstants.{MAX_DATA_WORDS}
use Rattle.states.specs.declared.known.WordFact.TheVariants.{Alone}
use Rattle.states.specs.State.{Facts, with_fact}
use Rattle.local_rules.specs.LoopRules.{last_index}
use Rattle.local_rules.specs.WordRules.{known_constant}
use Rattle.occam_parser.specs.declared.tree.ValueType.{ValueType}
use Rattle.scalar_ranges.specs.declared.scope.ScalarKind.{ScalarKind}
use Rattle.scalar_ranges.specs.Entries.{Array, Entry, Meaning, Scalar}
use Rattle.program_uses.specs.Declaring.{add}
use Rattle.code_pieces.specs.declared.piece.RowEntry.{RowEntry}
use Rattle.code_pieces.specs.declared.piece.WordFact.TheVariants.{Turning}
use Rattle.code_pieces.specs.Numbers.{turns_at}
use Rattle.code_pieces.specs.Pieces.{word_after, counted}
use Rattle.line_pieces.specs.Homes.{Block, Home, Word, count_in, facts_at, facts_from, facts_of}
use Rattle.code_generator.specs.Processes.{loop_start}
use Rattle.meant_lines.proofs.Housing.{get_last}
use Rattle.certified_lines.specs.Instructions.{MayWrite, with_word, without_a}
use Rattle.certified_lines.specs.Scopes.{HasTurns, Scene, loop_of}
use Rattle.certified_lines.specs.StraightRules.{FallOn, Setting, Told, with_pushed}
use Rattle.certified_lines.specs.Telling.{IsWhole, StayBefore}
use Rattle.certified_lines.proofs.Instructions.{constants_are_known, stored_words_are_known}
use Rattle.certified_lines.proofs.Operands.{stored_stay, stored_there}
use Rattle.certified_lines.proofs.StraightRules.{fall_both}
use Rattle.certified_lines.proofs.Telling.{few_counted, stay_both, stay_fewer}
use Rattle.certified_modules.specs.Passing.{after_turns}
use Rattle.certified_scopes.proofs.NamedFacts.{facts_cons, facts_there}
use Rattle.certified_processes.specs.Places.{IsHeadBefore}

-- ---- turns

-- a name of a loop around says nothing of this one
one_turns : (label : ℕ) (h : Home) (m : Meaning) (rest : List RowEntry) → IsHeadBefore label h
    → turns_at label (facts_at h m ++ rest) ≡ turns_at label rest
one_turns label (Word w) (Scalar kind type range) rest less = refl
one_turns label (Word w) (Array kind type (Some size) range) rest less = refl
one_turns label (Word w) (Array kind type None range) rest less = refl
one_turns label (Word w) m rest less = refl
one_turns label (Block w head) (Scalar kind type range) rest less =
    let apart : nat_eq head label ≡ false = grind (arith, nat_tests, less) in
    ap (λ (b : Bool). cond b (Some (count_in range)) (turns_at label rest)) apart
one_turns label (Block w head) m rest less = refl
one_turns label h m rest less = refl

all_turns : (label : ℕ) (hs : List Home) (es : List Entry) (rest : List RowEntry)
    → AllByRecursion (IsHeadBefore label) hs
    → turns_at label (facts_from hs es ++ rest) ≡ turns_at label rest
all_turns label [] es rest all = refl
all_turns label (h ∷ hs) [] rest all = refl
all_turns label (h ∷ hs) (e ∷ es) rest all =
    ap (turns_at label) (append_assoc (facts_at h e.meaning) (facts_from hs es) rest)
    ∙ one_turns label h e.meaning (facts_from hs es ++ rest) all.0 ∙ all_turns label hs es rest all.1

from_more : (hs more : List Home) (es : List Entry) → length es ≤ length hs
    → facts_from (hs ++ more) es ≡ facts_from hs es
from_more [] [] [] few = refl
from_more [] (x ∷ more) [] few = refl
from_more [] more (e ∷ es) few = absurd (omega (arith, few))
from_more (h ∷ hs) more [] few = refl
from_more (h ∷ hs) more (e ∷ es) few =
    ap (λ (fs : List RowEntry). facts_at h e.meaning ++ fs) (from_more hs more es (omega (arith, few)))

-- more homes than names say nothing more
pub facts_more : (hs more : List Home) (es : List Entry) → length es ≤ length hs
    → facts_of (hs ++ more) es ≡ facts_of hs es
facts_more hs more es few =
    let same = length-reverse es in from_more hs more (reverse es) (omega (arith, few, same))

-- the loop of the head that a row is at
pub head_turns : (hs : List Home) (es : List Entry) (name : List ℕ) (kind : ScalarKind) (type : ValueType)
    (range : Ends) (w head : ℕ) → length hs ≡ length es → AllByRecursion (IsHeadBefore head) hs
    → turns_at head (facts_of (hs ++ Block w head ∷ []) (add name (Scalar kind type range) es)) ≡ Some (count_in range)
head_turns hs es name kind type range w head long all =
    let e : Entry = record { name = name; meaning = Scalar kind type range } in
    let all_hs : List Home = hs ++ Block w head ∷ [] in
    let block : RowEntry = record { word = w; span = 2; fact = Turning head range.lo (count_in range) } in
    ap (turns_at head)
    (facts_cons all_hs e es
    ∙ ap (λ (o : Option Home). facts_of all_hs es ++ facts_there o e.meaning)
    (get_last hs (Block w head) (length es) long)
    ∙ ap (λ (fs : List RowEntry). fs ++ block ∷ []) (facts_more hs (Block w head ∷ []) es (omega (arith, long))))
    ∙ all_turns head hs (reverse es) (block ∷ []) all
    ∙ ap (λ (b : Bool). cond b (Some (count_in range)) None) (eqb-self head)

-- ---- the last index

-- the index of the last turn is the end of the range
pub last_is : (g : Scene) (head : ℕ) (r : Ends) → IsRange r → HasTurns r → last_index (loop_of g head r) ≡ Some r.hi
unfolding last_index
last_is g head r ranged turns =
    let last : (r.lo +ℤ pos (count_in r)) -ℤ pos 1 ≡ r.hi = omega (arith, ints, turns) in
    let fits = ranged.hi_fits in
    ap (λ (v : ℤ). cond (int_le least_word v && int_le v greatest_word) (Some v) None) last
    ∙ ap (λ (b : Bool). cond (b && int_le r.hi greatest_word) (Some r.hi) None)
    (le-int_le least_word r.hi (omega (arith, ints, fits)))
    ∙ ap (λ (b : Bool). cond b (Some r.hi) None) (le-int_le r.hi greatest_word (omega (arith, ints, fits)))

-- ---- words

-- the base and the count are stored in the words of the block
pub record Starts (g : Setting) (top : ℕ) (base count : ℤ) (before : Told) : Type 0 where
  pub after : Told
  pub falls : FallOn g (loop_start top base count) before after
  pub stay : StayBefore top before.frame after.frame
  pub index : after.frame (pos top) ≡ Alone (Number base base)
  pub count_is : after.frame (pos (top + 1)) ≡ Alone (Number count count)

next_word : (top : ℕ) → top + 1 < MAX_DATA_WORDS → word_after top 1 ≡ top + 1
unfolding word_after counted
next_word top few = omega (arith, few)

-- so do the pieces before a loop
pub loop_starts : (g : Setting) (top : ℕ) (base count : ℤ) (before : Told) → top + 1 < MAX_DATA_WORDS → MayWrite g top
    → MayWrite g (top + 1) → Starts g top base count before
loop_starts g top base count before few first second =
    let next : ℕ = word_after top 1 in
    let same : next ≡ top + 1 = next_word top few in
    let one : Told = with_pushed (known_constant base) before in
    let two : Told = without_a (with_word top (known_constant base).fact one) in
    let three : Told = with_pushed (known_constant count) two in
    let four : Told = without_a (with_word next (known_constant count).fact three) in
    let older : Facts = with_fact (pos top) (Number base base) before.frame in
    let whole : IsWhole next top (older (pos top)) =
    subst (IsWhole next top) (sym (stored_there top (Number base base) before.frame)) tt in
    record {
      after = four;
      falls = fall_both (constants_are_known g base before)
          (fall_both (stored_words_are_known g top one (few_counted top (omega (arith, few))) first refl)
          (fall_both (constants_are_known g count two)
          (stored_words_are_known g next three (few_counted next (omega (arith, few, same)))
          (subst (MayWrite g) (sym same) second) refl)));
      stay = stay_both top before.frame older four.frame (stored_stay top (Number base base) before.frame)
          (stay_fewer top next older four.frame (omega (arith, same)) (stored_stay next (Number count count) older));
      index = stored_stay next (Number count count) older top (omega (arith, same)) whole
          ∙ stored_there top (Number base base) before.frame;
      count_is = ap (λ (k : ℕ). four.frame (pos k)) (sym same) ∙ stored_there next (Number count count) older;
    }

-- behind its turns the words before a block stay known
pub turns_stay : (w : ℕ) (last : ℤ) (f : Facts) → StayBefore w f (after_turns w last f)
turns_stay w last f =
    let none : Facts = with_fact (pos (w + 1)) (Number (pos 0) (pos 0)) f in
    stay_both w f none (after_turns w last f)
    (stay_fewer w (w + 1) f none (omega arith) (stored_stay (w + 1) (Number (pos 0) (pos 0)) f))
    (stored_stay w (Number last last) none)
