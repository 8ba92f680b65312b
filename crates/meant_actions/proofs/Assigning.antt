-- What is assigned is stored, and memory carries the environment after it.
use Rattle.std.proofs.Common.{◌≡◌, ℕ, ◌+◌, ◌*◌, ◌<◌, ◌≤◌, ◌⊎◌, inl, inr, ℤ, pos, Bool, true, false, List, [], ◌∷◌}
use Rattle.std.proofs.Common.{◌++◌, length, Option, Some, None, FitsSigned, refl, sym, ap, subst, ◌∙◌, arith}
use Rattle.std.specs.Prelude.{option_and_then}
use Rattle.std.specs.Int.{w32}
use Rattle.prefix_decoder.specs.declared.function.Fun.TheVariants as fun
use Rattle.machine_state.specs.LocalStep.{address, word_of, copied}
use Rattle.machine_state.specs.Memory.{Memory, place_of, local_address, byte_at, with_byte, with_word, byte_worth}
use Rattle.machine_state.proofs.Reading.{word_at-with_word}
use Rattle.occam_parser.specs.declared.tree.ValueType.{ValueType}
use Rattle.occam_parser.specs.declared.tree.ValueType.TheVariants as value_type
use Rattle.occam_parser.specs.Expressions.{Expression}
use Rattle.occam_parser.specs.Lines.{Place, Assign}
use Rattle.scalar_ranges.specs.Entries.{Entry}
use Rattle.scalar_ranges.specs.Environments.{Environment, Meets}
use Rattle.scalar_ranges.specs.Values.{number_of}
use Rattle.program_meaning.specs.Links.{Port}
use Rattle.program_meaning.specs.TypedValues.{IsOfType}
use Rattle.program_meaning.specs.Storing.{stored}
use Rattle.program_meaning.specs.Doing.{Doing, Leaves, or_fails, acting}
use Rattle.code_pieces.specs.Pieces.{Piece, Direct, stores, moves, word_after}
use Rattle.line_pieces.specs.Expressions.{expression_code, is_leaf, is_small, offset_of, first_code, or_zero, without}
use Rattle.line_pieces.specs.Expressions.{known_address, subscript_code, subscript_of}
use Rattle.line_pieces.specs.Actions.{Target, KnownElement, OtherElement, target_of, store_code, assign_code}
use Rattle.line_pieces.specs.Actions.{stores_at, stores_below, stored_offset, store_after}
use Rattle.placed_code.specs.StraightPieces.{Held, LeadOn, word_address, word_place}
use Rattle.placed_code.specs.LaidCode.{LaidCode, Lie}
use Rattle.placed_code.specs.Behaves.{Behaves, over}
use Rattle.placed_code.specs.Points.{point}
use Rattle.placed_code.proofs.StraightPieces.{lead_both}
use Rattle.meant_lines.specs.Words.{IsInFrame, Holds, ChangesWithin, with_frame_word}
use Rattle.meant_lines.specs.Instructions.{with_memory, without_a}
use Rattle.meant_lines.specs.Carrying.{Ground, HasFrame, Carries}
use Rattle.meant_lines.specs.Pushing.{Pushed}
use Rattle.meant_lines.proofs.Words.{words_have_places, bytes_have_places, changes_both, changes_wider}
use Rattle.meant_lines.proofs.Words.{changes_writing, other_word}
use Rattle.meant_lines.proofs.Carrying.{outer_words_stay}
use Rattle.meant_lines.proofs.Instructions.{words_are_stored, words_are_moved, distant_words_are_stored}
use Rattle.meant_lines.proofs.Instructions.{bytes_are_stored, waiting_is_pushed_below}
use Rattle.meant_lines.proofs.Housing.{after_further}
use Rattle.meant_lines.proofs.Pushing.{carries_after, word_is}
use Rattle.meant_lines.proofs.WrittenBytes.{first_byte, second_byte, third_byte, fourth_byte}
use Rattle.meant_actions.specs.Acting.{EndsAt, Begins, AreWithin, IsPushed, IsSubscript, IsScalar, IsInWords}
use Rattle.meant_actions.specs.Acting.{IsVariable, whole_scalar, array_element}
use Rattle.meant_actions.specs.Assigning.{AssignmentsBehave}
use Rattle.meant_actions.proofs.Acting.{straight_behaves, first_within, rest_within, temporary_within, next_word}
use Rattle.meant_actions.proofs.Addressing.{Addressed, known_addressed, word_selected, byte_selected, offset_selects}
use Rattle.meant_actions.proofs.Addressing.{elements_have_places}
use Rattle.meant_actions.proofs.Variables.{whole, element, element_place, element_word, with_element, scalar_target}
use Rattle.meant_actions.proofs.Variables.{scalar_within, element_within, element_target_is, LeavesStored}
use Rattle.meant_actions.proofs.Variables.{scalar_put, element_put}

-- ---- a store

-- where a store at an address goes to
abbrev stored_place : ValueType → (a : ℕ) (c : ℤ) → ℕ
stored_place value_type.Int a c = place_of (local_address a c)
stored_place value_type.Byte a c = place_of a

-- what is held once what is in B was stored there
abbrev after_store : ValueType → (w i : ℕ) → Held → Held
after_store type w i k = with_memory (with_element type w i k.stack.b k.memory) (without_a (without_a k))

stores_there : (g : Ground) (type : ValueType) (w i a : ℕ) (c : ℤ) (k : Held) → address k.stack.a ≡ a
    → stored_place type a c ≡ element_place type w i
    → LeadOn g.footing (stores_at type c ∷ []) k (after_store type w i k)
stores_there g value_type.Int w i a c k is place =
    subst (λ (p : ℕ). LeadOn g.footing (Direct fun.StoreNonLocal c ∷ []) k
    (with_memory (with_word k.memory p (Some k.stack.b)) (without_a (without_a k)))) place
    (distant_words_are_stored g.footing c a k is)
stores_there g value_type.Byte w i a c k is place =
    subst (λ (p : ℕ). LeadOn g.footing (stores_at value_type.Byte c ∷ []) k
    (with_memory (with_byte k.memory p (Some (byte_worth 1 k.stack.b))) (without_a (without_a k)))) place
    (bytes_are_stored g.footing a k is)

-- From what is held before, pieces lead to where a number was stored in an element. Before the store only words from t
-- on had changed.
record StoresIn (g : Ground) (ps : List Piece) (t : ℕ) (type : ValueType) (w i : ℕ) (v : ℤ) (before : Held)
    : Type 0 where
  after : Held
  leads : LeadOn g.footing ps before after
  under : Memory
  changes : ChangesWithin t g.words before.memory under
  is : after.memory ≡ with_element type w i v under

-- the number stays in A while the address is pushed
stored_over : (g : Ground) (type : ValueType) (w i a t next : ℕ) (v c : ℤ) (xs : List Piece) (k : Held)
    → t ≤ next → k.stack.a ≡ v → Addressed g xs next a true k → stored_place type a c ≡ element_place type w i
    → StoresIn g (xs ++ stores_at type c ∷ []) t type w i v k
stored_over g type w i a t next v c xs k later value x place = record {
  after = after_store type w i x.after;
  leads = lead_both x.leads (stores_there g type w i a c x.after x.at place);
  under = x.after.memory;
  changes = changes_wider later (omega arith) x.changes;
  is = ap (λ (u : ℤ). with_element type w i u x.after.memory) (x.below refl ∙ value);
}

-- what is held while it waits in a word
abbrev waiting : ℕ → Held → Held
waiting t k = with_memory (with_frame_word t k.stack.a k.memory) (without_a k)

-- it is pushed below the address
abbrev with_below : ℤ → Held → Held
with_below v k = record k { stack = record { a = k.stack.a; b = v; c = k.stack.b } }

module _ (g : Ground) (type : ValueType) (w i t : ℕ) (v : ℤ) (k : Held) (frame : HasFrame g k.memory)
    (within : t < g.words) (value : k.stack.a ≡ v) (fits : FitsSigned w32 v) where
  waits_inside : IsInFrame t
  waits_inside = let few = frame.few in omega (arith, within, few)

  waits : LeadOn g.footing (stores t ∷ []) k (waiting t k)
  waits = words_are_stored g.footing t k frame.workspace waits_inside

  waits_there : Holds (with_frame_word t k.stack.a k.memory) t v
  waits_there =
      let inside = frame.inside in
      subst (λ (u : ℤ). Holds (with_frame_word t u k.memory) t v) (sym value)
      (word_at-with_word k.memory (word_place t) v (omega (arith, within, inside)) fits)

  waits_alone : ChangesWithin t g.words k.memory (with_frame_word t k.stack.a k.memory)
  waits_alone = changes_writing t g.words t k.memory k.stack.a (omega arith) within

  -- The number waits in a temporary while the address is pushed.
  stored_below : (a next : ℕ) (c : ℤ) (small : Bool) (xs : List Piece) → t < next
      → Addressed g xs next a small (waiting t k) → stored_place type a c ≡ element_place type w i
      → StoresIn g (stores t ∷ (xs ++ stores_below type c t)) t type w i v k
  stored_below a next c small xs later x place =
      let there : Holds x.after.memory t v = other_word t (inl later) x.changes ∙ waits_there in
      record {
        after = after_store type w i (with_below v x.after);
        leads = lead_both waits (lead_both x.leads
            (lead_both (waiting_is_pushed_below g.footing t v x.after frame.workspace waits_inside there)
            (stores_there g type w i a c (with_below v x.after) x.at place)));
        under = x.after.memory;
        changes = changes_both waits_alone (changes_wider (omega (arith, later)) (omega arith) x.changes);
        is = refl;
      }

-- ---- a word that is moved

four_copied : (n : Memory) (from to : ℕ) (v : ℤ) → byte_at n from ≡ Some (byte_worth 1 v)
    → byte_at n (from + 1) ≡ Some (byte_worth 256 v) → byte_at n (from + 1 + 1) ≡ Some (byte_worth 65536 v)
    → byte_at n (from + 1 + 1 + 1) ≡ Some (byte_worth 16777216 v) → copied n from to 4 n ≡ with_word n to (Some v)
unfolding copied with_word
four_copied n from to v first second third fourth =
    let two : to + 1 + 1 ≡ to + 2 = omega arith in
    let three : to + 1 + 1 + 1 ≡ to + 3 = omega arith in
    λ j. with_byte (with_byte (with_byte (with_byte n to (first j)) (to + 1) (second j)) (two j) (third j))
    (three j) (fourth j)

-- the bytes of a word that was written are that word where they are copied to
copied_word : (m : Memory) (from to : ℕ) (v : ℤ) → from + 4 ≤ length m
    → copied (with_word m from (Some v)) from to 4 (with_word m from (Some v))
    ≡ with_word (with_word m from (Some v)) to (Some v)
copied_word m from to v inside =
    let n : Memory = with_word m from (Some v) in
    let zero_on : from ≡ from + 0 = omega arith in
    let two_on : from + 1 + 1 ≡ from + 2 = omega arith in
    let three_on : from + 1 + 1 + 1 ≡ from + 3 = omega arith in
    four_copied n from to v (ap (byte_at n) zero_on ∙ first_byte m from v inside) (second_byte m from v inside)
    (ap (byte_at n) two_on ∙ third_byte m from v inside) (ap (byte_at n) three_on ∙ fourth_byte m from v inside)

-- The number is moved from a temporary to the word of an element.
moved_there : (g : Ground) (w i t : ℕ) (v : ℤ) (k : Held) → HasFrame g k.memory → t < g.words → k.stack.a ≡ v
    → FitsSigned w32 v → IsInFrame (w + i)
    → StoresIn g (stores t ∷ moves 1 t (w + i)) t value_type.Int w i v k
moved_there g w i t v k frame within value fits inside =
    let few = frame.few in
    let long = frame.inside in
    let temporary : IsInFrame t = omega (arith, within, few) in
    let old : Memory = with_frame_word t k.stack.a k.memory in
    record {
      after = record {
        stack = record {
          a = pos (4 * 1);
          b = word_of (word_address (w + i));
          c = word_of (word_address t);
        };
        memory = copied old (word_place t) (word_place (w + i)) (4 * 1) old;
      };
      leads = lead_both (waits g value_type.Int w i t v k frame within value fits)
          (words_are_moved g.footing 1 t (w + i) (waiting t k) frame.workspace (omega arith) temporary inside);
      under = old;
      changes = waits_alone g value_type.Int w i t v k frame within value fits;
      is = copied_word k.memory (word_place t) (word_place (w + i)) k.stack.a (omega (arith, within, long))
          ∙ ap (λ (u : ℤ). with_frame_word (w + i) u old) value;
    }

-- ---- elements

module _ (g : Ground) (top next : ℕ) (es : List Entry) (env : Environment) (name : List ℕ) (type : ValueType)
    (size n w i : ℕ) (e : Expression) (v : ℤ) (k : Held) (meets : Meets env es) (low : top ≤ next)
    (later : top < g.words → top < next)
    (array : IsInWords g es name type size n w) (sub : IsSubscript g top es env next size e i)
    (carries : Carries g top es env k.memory) (value : k.stack.a ≡ v) (fits : FitsSigned w32 v) where
  -- the word of the element is one of the frame
  inside_frame : IsInFrame (element_word type w i)
  inside_frame =
      let within = element_within g top es env name type size n w i k.memory array sub.inside carries in
      omega (arith, within, carries.frame.few)

  -- memory still carries the environment while the number waits
  waiting_carries : top < g.words → Carries g top es env (with_frame_word top k.stack.a k.memory)
  waiting_carries within =
      outer_words_stay g top top g.words es env k.memory (with_frame_word top k.stack.a k.memory) meets (omega arith)
      (omega arith) (changes_writing top g.words top k.memory k.stack.a (omega arith) within) carries

  -- an element that is known
  known_by : (type : ValueType) → IsInFrame (element_word type w i) → top < g.words
      → StoresIn g (store_code (KnownElement type w i) top) top type w i v k
  known_by value_type.Int inside within =
      subst (λ (word : ℕ). StoresIn g (stores top ∷ moves 1 top word) top value_type.Int w i v k)
      (sym (word_is w i inside)) (moved_there g w i top v k carries.frame within value fits inside)
  known_by value_type.Byte inside within =
      stored_below g value_type.Byte w i top v k carries.frame within value fits (word_address w + i) next (pos 0)
      false (known_address value_type.Byte w i) (later within)
      (known_addressed g value_type.Byte w i next false (waiting top k) carries.frame.workspace inside)
      (elements_have_places value_type.Byte w i inside)

  -- the code of the subscript, without its constant if words are stored
  abbrev subscript_for : ValueType → List Piece
  subscript_for type = without (stored_offset type (offset_of es e)) (expression_code g.homes es next e)
      (first_code g.homes es next e)

  abbrev offset_for : ValueType → ℤ
  offset_for type = or_zero (stored_offset type (offset_of es e))

  -- the address of the element, but for that constant
  record Selected (kind : ValueType) (j : Held) : Type 0 where
    a : ℕ
    addressed : Addressed g (subscript_for kind ++ subscript_code kind w) next a (is_small es e) j
    reaches : stored_place kind a (offset_for kind) ≡ element_place kind w i

  selected_by : (type : ValueType) (j : Held) → IsInFrame (element_word type w i) → Carries g top es env j.memory
      → AreWithin g (subscript_for type) → Selected type j
  selected_by value_type.Int j inside kept all =
      let first = sub.first in
      record {
        a = local_address (word_address w) first.value;
        addressed = word_selected g (subscript_for value_type.Int) w next first.leaf (is_small es e) first.value j
            kept.frame.workspace (omega (arith, inside)) (first.pushes all j kept);
        reaches = ap place_of (offset_selects w i first.value (offset_for value_type.Int) inside first.sum first.word
            first.offset)
            ∙ words_have_places (w + i) inside;
      }
  selected_by value_type.Byte j inside kept all = record {
    a = word_address w + i;
    addressed = byte_selected g (expression_code g.homes es next e) w i next (is_leaf es e) (is_small es e) j
        kept.frame.workspace inside (sub.pushed.pushes all j kept);
    reaches = bytes_have_places w i (omega (arith, inside)) (omega (arith, inside));
  }

  -- another one, by the code of its subscript, for which the number waits unless that is small
  other_by : (small : Bool) → is_small es e ≡ small
      → AreWithin g (store_after type w small (offset_for type) (subscript_for type) top)
      → StoresIn g (store_after type w small (offset_for type) (subscript_for type) top) top type w i v k
  other_by true is all =
      let code : List Piece = subscript_for type ++ subscript_code type w in
      let found = selected_by type k inside_frame carries
      (first_within g (subscript_for type) (subscript_code type w)
      (first_within g code (stores_at type (offset_for type) ∷ []) all)) in
      stored_over g type w i found.a top next v (offset_for type) code k low value
      (subst (λ (s : Bool). Addressed g code next found.a s k) is found.addressed) found.reaches
  other_by false is all =
      let code : List Piece = subscript_for type ++ subscript_code type w in
      let within = temporary_within g top es env k.memory carries all.0 in
      let found = selected_by type (waiting top k) inside_frame (waiting_carries within)
      (first_within g (subscript_for type) (subscript_code type w)
      (first_within g code (stores_below type (offset_for type) top) all.1)) in
      stored_below g type w i top v k carries.frame within value fits found.a next (offset_for type) (is_small es e)
      code (later within) found.addressed found.reaches

  -- so the code of the store does
  known_stored : AreWithin g (store_code (KnownElement type w i) top)
      → StoresIn g (store_code (KnownElement type w i) top) top type w i v k
  known_stored all = known_by type inside_frame (temporary_within g top es env k.memory carries all.0)

  other_stored : AreWithin g (store_code (OtherElement type w (subscript_of g.homes es next e)) top)
      → StoresIn g (store_code (OtherElement type w (subscript_of g.homes es next e)) top) top type w i v k
  other_stored all = other_by (is_small es e) refl all

-- ---- assignments

assigned : (ports : List (Option Port)) (target : Place) (value : Expression) (env after : Environment) (v : ℤ)
    → number_of env value ≡ Some v → stored env target v ≡ Some after
    → acting ports (Assign target value) env ≡ Leaves after
assigned ports target value env after v is put =
    ap (λ (o : Option ℤ). or_fails (option_and_then (stored env target) o) Leaves) is
    ∙ ap (λ (o : Option Environment). or_fails o Leaves) put

module _ (c : LaidCode) (g : Ground) (top at to : ℕ) (es : List Entry) (env : Environment) (h : Held)
    (ports : List (Option Port)) (value : Expression) (v : ℤ) (begins : Begins c g top es env h)
    (pushed : IsPushed g top es env top value v) where
  abbrev code : List Piece
  code = expression_code g.homes es top value

  abbrev FirstPushed : Type 0
  FirstPushed = Pushed g code top (is_leaf es value) (is_small es value) v h

  kept_after : (first : FirstPushed) → Carries g top es env first.after.memory
  kept_after first =
      carries_after g top top es env code (is_leaf es value) (is_small es value) v h begins.meets (omega arith) first
      begins.carries

  -- the number goes to an element
  element_ends : (target : Place) (type : ValueType) (w i : ℕ) (ps : List Piece) (first : FirstPushed)
      → StoresIn g ps top type w i v first.after → LeavesStored g top es env target v (with_element type w i v)
      → Lie c at (code ++ ps) to
      → Behaves c (EndsAt g top es to) (point at h) (acting ports (Assign target value) env)
  element_ends target type w i ps first store left lie =
      let changes = changes_both first.changes store.changes in
      subst (λ (t : Doing). Behaves c (EndsAt g top es to) (point at h) t)
      (sym (assigned ports target value env left.after v pushed.is left.is))
      (straight_behaves c g begins.footing lie (lead_both first.leads store.leads)
      (over (record {
        at = refl;
        carries = subst (λ (m : Memory). Carries g top es left.after m) (sym store.is)
            (left.carries store.under
            (outer_words_stay g top top g.words es env h.memory store.under begins.meets (omega arith) (omega arith)
            changes begins.carries));
      })))

  -- the number goes to a scalar
  scalar_ends : (name : List ℕ) (type : ValueType) (n w : ℕ) → IsScalar g es name type n w → FirstPushed
      → Lie c at (code ++ (stores w ∷ [])) to
      → Behaves c (EndsAt g top es to) (point at h) (acting ports (Assign (whole name) value) env)
  scalar_ends name type n w scalar first lie =
      let k = first.after in
      let kept = kept_after first in
      let within = scalar_within g top es env name type n w k.memory scalar kept in
      let inside : IsInFrame w = omega (arith, within, kept.frame.few) in
      let left = scalar_put g top es env name type n w v begins.meets scalar pushed.word in
      subst (λ (t : Doing). Behaves c (EndsAt g top es to) (point at h) t)
      (sym (assigned ports (whole name) value env left.after v pushed.is left.is))
      (straight_behaves c g begins.footing lie
      (lead_both first.leads (words_are_stored g.footing w k kept.frame.workspace inside))
      (over (record {
        at = refl;
        carries = subst (λ (x : ℤ). Carries g top es left.after (with_frame_word w x k.memory)) (sym first.a)
            (left.carries k.memory kept);
      })))

  -- where further words are free while the number waits
  abbrev next : ℕ
  next = word_after top 1

  next_low : top ≤ next
  next_low = after_further top 1 begins.carries.counted

  next_later : top < g.words → top < next
  next_later within =
      let few = begins.carries.frame.few in
      let same = next_word top (omega (arith, within, few)) in
      omega (arith, same)

  abbrev target_for : List ℕ → Expression → Target
  target_for name e = target_of g.homes es next (element name e)

  -- to one with this target, where its code stores the number
  element_to : (name : List ℕ) (e : Expression) (type : ValueType) (size n w i : ℕ)
      → IsInWords g es name type size n w → IsSubscript g top es env next size e i → IsOfType type v
      → AreWithin g (code ++ store_code (target_for name e) top)
      → Lie c at (code ++ store_code (target_for name e) top) to → (x : Target) → target_for name e ≡ x
      → ((first : FirstPushed) → AreWithin g (store_code x top)
      → StoresIn g (store_code x top) top type w i v first.after)
      → Behaves c (EndsAt g top es to) (point at h) (acting ports (Assign (element name e) value) env)
  element_to name e type size n w i array sub typed all lie x is stores_in =
      let first = pushed.pushes (first_within g code (store_code (target_for name e) top) all) h begins.carries in
      element_ends (element name e) type w i (store_code x top) first
      (stores_in first (subst (λ (y : Target). AreWithin g (store_code y top)) is
      (rest_within g code (store_code (target_for name e) top) all)))
      (element_put g top es env name e type size n w i v begins.meets array sub.pushed.is sub.inside typed)
      (subst (λ (y : Target). Lie c at (code ++ store_code y top) to) is lie)

  element_by : (name : List ℕ) (e : Expression) (type : ValueType) (size n w i : ℕ)
      → IsInWords g es name type size n w → IsSubscript g top es env next size e i → IsOfType type v
      → AreWithin g (code ++ store_code (target_for name e) top)
      → Lie c at (code ++ store_code (target_for name e) top) to
      → (target_for name e ≡ KnownElement type w i)
      ⊎ (target_for name e ≡ OtherElement type w (subscript_of g.homes es next e))
      → Behaves c (EndsAt g top es to) (point at h) (acting ports (Assign (element name e) value) env)
  element_by name e type size n w i array sub typed all lie (inl known) =
      element_to name e type size n w i array sub typed all lie (KnownElement type w i) known
      (λ first. known_stored g top next es env name type size n w i e v first.after begins.meets next_low next_later
      array sub (kept_after first) first.a pushed.word)
  element_by name e type size n w i array sub typed all lie (inr other) =
      element_to name e type size n w i array sub typed all lie (OtherElement type w (subscript_of g.homes es next e))
      other
      (λ first. other_stored g top next es env name type size n w i e v first.after begins.meets next_low next_later
      array sub (kept_after first) first.a pushed.word)

  assign_by : (name : List ℕ) (o : Option Expression) (type : ValueType) → IsVariable g top es env next name type o
      → IsOfType type v → AreWithin g (assign_code g.homes es top (record { name = name; subscript = o }) value)
      → Lie c at (assign_code g.homes es top (record { name = name; subscript = o }) value) to
      → Behaves c (EndsAt g top es to) (point at h)
      (acting ports (Assign (record { name = name; subscript = o }) value) env)
  assign_by name None type (whole_scalar {n = n} {w = w} scalar) typed all lie =
      scalar_ends name type n w scalar
      (pushed.pushes (first_within g code (store_code (target_of g.homes es next (whole name)) top) all) h
      begins.carries)
      (subst (λ (x : Target). Lie c at (code ++ store_code x top) to)
      (scalar_target g es next name type n w scalar) lie)
  assign_by name (Some e) type (array_element {size = size} {n = n} {w = w} {i = i} array sub) typed all lie =
      element_by name e type size n w i array sub typed all lie
      (element_target_is g top es env next name type size n w e i array sub)

pub assignments_behave : AssignmentsBehave
assignments_behave c g top at to es env h ports target value begins assignment all lie =
    assign_by c g top at to es env h ports value assignment.number begins assignment.pushed target.name
    target.subscript assignment.type assignment.variable assignment.typed all lie
