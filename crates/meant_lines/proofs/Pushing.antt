-- What the code of constants, of scalars and of elements pushes.
use Rattle.std.proofs.Common.{◌≡◌, ℕ, ◌+◌, ◌*◌, ◌/◌, ◌%◌, ◌<◌, ◌≤◌, ℤ, pos, negsuc}
use Rattle.std.proofs.Common.{Bool, true, false, cond, nat_eq, List, [], ◌∷◌, ◌++◌, length, Option, Some, None}
use Rattle.std.proofs.Common.{FitsSigned, refl, sym, ap, subst, ◌∙◌, arith, append_assoc}
use Rattle.std.specs.Prelude.{◌+ℤ◌}
use Rattle.std.specs.Int.{w32}
use Rattle.std.proofs.lemmas.Int.{ints, of_z-to_z}
use Rattle.std.proofs.lemmas.Bool.{eqb-true}
use Rattle.module_format.specs.declared.limits.TheConstants.{MAX_DATA_WORDS}
use Rattle.word_arithmetic.specs.Range.{Ends}
use Rattle.machine_state.specs.LocalStep.{address, word_of}
use Rattle.machine_state.specs.Memory.{Memory, place_of, local_address, byte_at, word_at}
use Rattle.occam_parser.specs.declared.tree.ValueType.{ValueType}
use Rattle.occam_parser.specs.declared.tree.ValueType.TheVariants as value_type
use Rattle.scalar_ranges.specs.declared.scope.ScalarKind.{ScalarKind}
use Rattle.scalar_ranges.specs.Entries.{Meaning, Scalar, Array, Entry, meaning_in}
use Rattle.scalar_ranges.specs.Environments.{Held, One, Many, Environment, held_in, item_at, item_of, IsHeld, Meets}
use Rattle.scalar_ranges.proofs.Lookups.{found_held}
use Rattle.code_pieces.specs.declared.operations.TheConstants.{LOAD_BYTE, BYTE_SUBSCRIPT, WORD_SUBSCRIPT}
use Rattle.code_pieces.specs.Pieces.{Piece, operates, loads, points, constant}
use Rattle.code_pieces.specs.Pieces.{counted, word_after}
use Rattle.line_pieces.specs.Homes as home
use Rattle.line_pieces.specs.Homes.{Home, Nowhere, Word, Block, Link, Passed, home_of, words_for}
use Rattle.line_pieces.specs.Expressions.{scalar_code, or_zero, before_offset, loads_at}
use Rattle.line_pieces.specs.Expressions.{element_of_words}
use Rattle.placed_code.specs.StraightPieces as pieces
use Rattle.placed_code.specs.StraightPieces.{Footing, LeadOn, done, with_pushed, word_address, word_place}
use Rattle.placed_code.proofs.StraightPieces.{lead_both}
use Rattle.meant_lines.specs.Words.{IsInFrame, Holds}
use Rattle.meant_lines.specs.Instructions.{with_a, with_result}
use Rattle.meant_lines.specs.Carrying.{Ground, HoldsArray, HoldsTable, IsKeptThere, IsInside, Carries}
use Rattle.meant_lines.specs.Pushing.{Pushed}
use Rattle.meant_lines.specs.PushingLaws.{ConstantsPush, ScalarsPush, IsArray, KnownWordsPush, WordsPush}
use Rattle.meant_lines.specs.PushingLaws.{KnownBytesPush, BytesPush, KnownItemsPush, ItemsPush}
use Rattle.meant_lines.proofs.Words.{all_alike, words_have_places, bytes_have_places}
use Rattle.meant_lines.proofs.Words.{elements_have_addresses, addresses_read_back, addresses_move_twice}
use Rattle.meant_lines.proofs.Carrying.{names_are_kept, homes_are_inside, outer_words_stay, item_below}
use Rattle.meant_lines.proofs.Instructions.{constants_are_pushed, words_are_loaded, addresses_are_pushed}
use Rattle.meant_lines.proofs.Instructions.{tables_are_pushed, distant_words_are_loaded, bytes_are_loaded}
use Rattle.meant_lines.proofs.Instructions.{words_are_selected, bytes_are_selected}

-- ---- one push

pub one_push : (g : Ground) (ps : List Piece) (t : ℕ) (leaf small : Bool) (v : ℤ) (h : pieces.Held)
    → LeadOn g.footing ps h (with_pushed v h) → Pushed g ps t leaf small v h
one_push g ps t leaf small v h leads = record {
  after = with_pushed v h;
  leads = leads;
  a = refl;
  changes = all_alike t g.words h.memory;
  below = λ is. refl;
  alone = λ is. refl;
}

pub constants_push : ConstantsPush
constants_push g t leaf small v h =
    one_push g (constant v ∷ []) t leaf small v h (constants_are_pushed g.footing v h)

-- a word that lies in the frame
word_pushes : (g : Ground) (top : ℕ) (es : List Entry) (env : Environment) (t word : ℕ) (leaf small : Bool) (v : ℤ)
    (h : pieces.Held) → Carries g top es env h.memory → word < g.words → Holds h.memory word v
    → Pushed g (loads word ∷ []) t leaf small v h
word_pushes g top es env t word leaf small v h carries below is =
    one_push g (loads word ∷ []) t leaf small v h
    (words_are_loaded g.footing word v h carries.frame.workspace
    (omega (arith, below, carries.frame.few)) is)

-- ---- scalars

scalar_pushes : (g : Ground) (top t : ℕ) (es : List Entry) (env : Environment) (o : Option Home) (kind : ScalarKind)
    (type : ValueType) (range : Ends) (reference leaf small : Bool) (v : ℤ) (h : pieces.Held)
    → Carries g top es env h.memory → IsInside g.words o (Scalar kind type range)
    → IsKeptThere g h.memory o (Scalar kind type range) (One v)
    → Pushed g (scalar_code reference o) t leaf small v h
scalar_pushes g top t es env None kind type range reference leaf small v h carries ends kept = absurd kept
scalar_pushes g top t es env (Some Nowhere) kind type range reference leaf small v h carries ends kept = absurd kept
scalar_pushes g top t es env (Some (Word w)) kind type range true leaf small v h carries ends kept =
    word_pushes g top es env t w leaf small v h carries (omega (arith, ends)) kept.is
scalar_pushes g top t es env (Some (Word w)) kind type range false leaf small v h carries ends kept =
    word_pushes g top es env t w leaf small v h carries (omega (arith, ends)) kept.is
scalar_pushes g top t es env (Some (Block w head)) kind type range true leaf small v h carries ends kept =
    word_pushes g top es env t w leaf small v h carries (omega (arith, ends)) kept.0
scalar_pushes g top t es env (Some (Block w head)) kind type range false leaf small v h carries ends kept =
    word_pushes g top es env t w leaf small v h carries (omega (arith, ends)) kept.0
scalar_pushes g top t es env (Some (Link n)) kind type range reference leaf small v h carries ends kept = absurd kept
scalar_pushes g top t es env (Some (home.Table vs)) kind type range reference leaf small v h carries ends kept =
    absurd kept
scalar_pushes g top t es env (Some (Passed w)) kind type range reference leaf small v h carries ends kept =
    absurd kept

pub scalars_push : ScalarsPush
scalars_push g top t es env name kind type range reference leaf small v meets means holds h carries =
    let k : Meaning = Scalar kind type range in
    scalar_pushes g top t es env (home_of g.homes es name) kind type range reference leaf small v h carries
    (homes_are_inside g.words g.homes es name k carries.room means)
    (subst (λ (held : Held). IsKeptThere g h.memory (home_of g.homes es name) k held) holds
    (names_are_kept g h.memory es env name k meets carries.kept means))

-- ---- arrays

-- what memory holds of an array
array_kept : (g : Ground) (top : ℕ) (es : List Entry) (env : Environment) (name : List ℕ) (type : ValueType) (h : Home)
    (vs : List ℤ) (m : Memory) (array : IsArray g es env name type h vs) → Carries g top es env m
    → IsKeptThere g m (Some h) (Array array.kind type array.size array.range) (Many vs)
array_kept g top es env name type h vs m array carries =
    let k : Meaning = Array array.kind type array.size array.range in
    subst (λ (held : Held). IsKeptThere g m (Some h) k held) array.holds
    (subst (λ (o : Option Home). IsKeptThere g m o k (held_in name env)) array.at
    (names_are_kept g m es env name k array.meets carries.kept array.means))

-- its words end in the frame
array_ends : (g : Ground) (top w : ℕ) (es : List Entry) (env : Environment) (name : List ℕ) (type : ValueType)
    (vs : List ℤ) (m : Memory) (array : IsArray g es env name type (Word w) vs) → Carries g top es env m
    → w + words_for type (length vs) ≤ g.words
array_ends g top w es env name type vs m array carries =
    by_size array.size array.means
    (subst (IsHeld (Array array.kind type array.size array.range)) array.holds
    (found_held name es env (Array array.kind type array.size array.range) array.meets array.means))
  where
    by_size : (size : Option ℕ) → meaning_in name es ≡ Some (Array array.kind type size array.range)
        → IsHeld (Array array.kind type size array.range) (Many vs) → w + words_for type (length vs) ≤ g.words
    by_size None means held = absurd held
    by_size (Some size) means held =
        subst (λ (n : ℕ). w + words_for type n ≤ g.words) (sym held.0)
        (subst (λ (o : Option Home). IsInside g.words o (Array array.kind type (Some size) array.range)) array.at
        (homes_are_inside g.words g.homes es name (Array array.kind type (Some size) array.range) carries.room means))

pub word_is : (word count : ℕ) → IsInFrame (word + count) → word_after word count ≡ word + count
unfolding word_after counted
word_is word count few = omega (arith, few)

pub known_words_push : KnownWordsPush
known_words_push g top t w es env name vs s leaf small (negsuc i) v array is h carries = absurd (cc)
known_words_push g top t w es env name vs s leaf small (pos i) v array is h carries =
    let ends = array_ends g top w es env name value_type.Int vs h.memory array carries in
    let less = item_below i vs v is in
    let word : word_after w i ≡ w + i = word_is w i (omega (arith, ends, less, carries.frame.few)) in
    subst (λ (n : ℕ). Pushed g (loads n ∷ []) t leaf small v h) (sym word)
    (word_pushes g top es env t (w + i) leaf small v h carries (omega (arith, ends, less))
    (array_kept g top es env name value_type.Int (Word w) vs h.memory array carries i v is).is)

-- memory after the code of a subscript
pub carries_after : (g : Ground) (top t : ℕ) (es : List Entry) (env : Environment) (ps : List Piece) (leaf small : Bool)
    (v : ℤ) (h : pieces.Held) → Meets env es → top ≤ t → (first : Pushed g ps t leaf small v h)
    → Carries g top es env h.memory → Carries g top es env first.after.memory
carries_after g top t es env ps leaf small v h meets low first carries =
    outer_words_stay g top t g.words es env h.memory first.after.memory meets low (omega arith) first.changes carries

-- ---- words

-- a word that is selected by a subscript in B, and a constant
selected : Ground → ℕ → ℤ → pieces.Held → pieces.Held
selected g a v k = with_a v (with_result (word_of (local_address a k.stack.a)) (with_pushed (word_of a) k))

word_selected : (g : Ground) (a : ℕ) (i c v : ℤ) (k : pieces.Held) → address (word_of a) ≡ a → k.stack.a ≡ i
    → FitsSigned w32 i → FitsSigned w32 c → FitsSigned w32 (i +ℤ c)
    → word_at k.memory (place_of (local_address a (i +ℤ c))) ≡ Some v
    → LeadOn g.footing (operates WORD_SUBSCRIPT ∷ loads_at c ∷ []) (with_pushed (word_of a) k) (selected g a v k)
unfolding selected
word_selected g a i c v k back is first offset both there =
    let h : pieces.Held = with_pushed (word_of a) k in
    let place : place_of (local_address (local_address a k.stack.a) c) ≡ place_of (local_address a (i +ℤ c)) =
    ap (λ (x : ℤ). place_of (local_address (local_address a x) c)) is
    ∙ ap place_of (addresses_move_twice a i c first offset both) in
    lead_both (words_are_selected g.footing a h back)
    (distant_words_are_loaded g.footing c (local_address a k.stack.a) v
    (with_result (word_of (local_address a k.stack.a)) h) (addresses_read_back.further a k.stack.a)
    (ap (word_at k.memory) place ∙ there))

-- an element that is selected so lies there
element_there : (m : Memory) (w limit : ℕ) (vs : List ℤ) (x v : ℤ) → w + length vs ≤ limit
    → limit ≤ MAX_DATA_WORDS → HoldsArray value_type.Int m w vs → item_of vs x ≡ Some v
    → word_at m (place_of (local_address (word_address w) x)) ≡ Some v
element_there m w limit vs (negsuc j) v ends few holds is = absurd (cc)
element_there m w limit vs (pos j) v ends few holds is =
    let less = item_below j vs v is in
    let inside : IsInFrame (w + j) = omega (arith, less, ends, few) in
    ap (λ (a : ℕ). word_at m (place_of a)) (elements_have_addresses w j inside)
    ∙ ap (word_at m) (words_have_places (w + j) inside) ∙ (holds j v is).is

has_some : (vs : List ℤ) (x v : ℤ) → item_of vs x ≡ Some v → 0 < length vs
has_some vs (negsuc j) v is = absurd (cc)
has_some vs (pos j) v is = let less = item_below j vs v is in omega (arith, less)

pub words_push : WordsPush
unfolding selected
words_push g top t w es env name vs s leaf small i v low array subs pushes h carries =
    let first = pushes h carries in
    let k = first.after in
    let kept = carries_after g top t es env (before_offset s) leaf small i h array.meets low first carries in
    let ends = array_ends g top w es env name value_type.Int vs k.memory array kept in
    let some = has_some vs (i +ℤ or_zero s.offset) v subs.selects in
    let inside : IsInFrame w = omega (arith, ends, some, kept.frame.few) in
    let there = element_there k.memory w g.words vs (i +ℤ or_zero s.offset) v (omega (arith, ends))
    kept.frame.few (array_kept g top es env name value_type.Int (Word w) vs k.memory array kept)
    subs.selects in
    record {
      after = selected g (word_address w) v k;
      leads = subst (λ (ps : List Piece). LeadOn g.footing ps h (selected g (word_address w) v k))
          (sym (append_assoc (before_offset s) (points w ∷ operates WORD_SUBSCRIPT ∷ [])
          (loads_at (or_zero s.offset) ∷ [])))
          (lead_both first.leads
          (lead_both (addresses_are_pushed g.footing w k kept.frame.workspace inside)
          (word_selected g (word_address w) i (or_zero s.offset) v k (addresses_read_back.word w inside) first.a
          subs.first subs.offset subs.both there)));
      a = refl;
      changes = first.changes;
      below = λ is. first.below is;
      alone = λ is. absurd (cc is);
    }

-- ---- tables

table_there : (g : Ground) (m : Memory) (values vs : List ℤ) (x v : ℤ) → vs ≡ values → HoldsTable g m values
    → item_of vs x ≡ Some v → word_at m (place_of (local_address (g.footing.tables values) x)) ≡ Some v
table_there g m values vs (negsuc j) v same table is = absurd (cc)
table_there g m values vs (pos j) v same table is =
    (table.items j v (ap (item_at j) (sym same) ∙ is)).word

pub known_items_push : KnownItemsPush
known_items_push g top t es env name type values vs s small c v array reads is h carries =
    let kept = array_kept g top es env name type (home.Table values) vs h.memory array carries in
    let table = kept.1 reads in
    let a = g.footing.tables values in
    let k = with_pushed (word_of a) h in
    record {
      after = with_a v k;
      leads = lead_both (tables_are_pushed g.footing values h)
          (distant_words_are_loaded g.footing c a v k (of_z-to_z w32 a table.address)
          (table_there g h.memory values vs c v kept.0 table is));
      a = refl;
      changes = all_alike t g.words h.memory;
      below = λ is. refl;
      alone = λ is. absurd (cc is);
    }

pub items_push : ItemsPush
unfolding selected
items_push g top t es env name type values vs s leaf small i v low array reads subs pushes h carries =
    let first = pushes h carries in
    let k = first.after in
    let still = carries_after g top t es env (before_offset s) leaf small i h array.meets low first carries in
    let kept = array_kept g top es env name type (home.Table values) vs k.memory array still in
    let table = kept.1 reads in
    let a = g.footing.tables values in
    record {
      after = selected g a v k;
      leads = lead_both first.leads
          (lead_both (tables_are_pushed g.footing values k)
          (word_selected g a i (or_zero s.offset) v k (of_z-to_z w32 a table.address) first.a subs.first subs.offset
          subs.both (table_there g k.memory values vs (i +ℤ or_zero s.offset) v kept.0 table subs.selects)));
      a = refl;
      changes = first.changes;
      below = λ is. first.below is;
      alone = λ is. absurd (cc is);
    }

-- ---- bytes

byte_selected : Ground → ℕ → ℕ → ℕ → pieces.Held → pieces.Held
byte_selected g w j b k =
    with_a (pos b) (with_result (word_of (word_address w + j)) (with_pushed (word_of (word_address w)) k))

byte_loaded : (g : Ground) (w j b : ℕ) (k : pieces.Held) → IsInFrame g.footing.depth → IsInFrame w
    → j < 4 * MAX_DATA_WORDS → k.stack.a ≡ pos j → byte_at k.memory (word_place w + j) ≡ Some b
    → LeadOn g.footing (points w ∷ operates BYTE_SUBSCRIPT ∷ operates LOAD_BYTE ∷ []) k (byte_selected g w j b k)
unfolding byte_selected
byte_loaded g w j b k workspace inside near is there =
    let h : pieces.Held = with_pushed (word_of (word_address w)) k in
    let counts : address k.stack.a ≡ j = ap address is ∙ few_read j near in
    lead_both (addresses_are_pushed g.footing w k workspace inside)
    (lead_both (bytes_are_selected g.footing (word_address w) j h (addresses_read_back.word w inside) counts
    (omega (arith, inside, near)))
    (bytes_are_loaded g.footing (word_address w + j) b (with_result (word_of (word_address w + j)) h)
    (addresses_read_back.byte w j inside near) (ap (byte_at k.memory) (bytes_have_places w j inside near) ∙ there)))
  where
    few_read : (j : ℕ) → j < 4 * MAX_DATA_WORDS → address (pos j) ≡ j
    few_read j near = omega (arith, ints, near)

pub bytes_push : BytesPush
unfolding byte_selected
bytes_push g top t w es env name vs s leaf small (negsuc j) v low array is pushes h carries = absurd (cc)
bytes_push g top t w es env name vs s leaf small (pos j) v low array is pushes h carries =
    let first = pushes h carries in
    let k = first.after in
    let kept = carries_after g top t es env s.whole leaf small (pos j) h array.meets low first carries in
    let ends = array_ends g top w es env name value_type.Byte vs k.memory array kept in
    let less = item_below j vs v is in
    let byte = array_kept g top es env name value_type.Byte (Word w) vs k.memory array kept j v is in
    record {
      after = byte_selected g w j byte.0 k;
      leads = subst (λ (ps : List Piece). LeadOn g.footing ps h (byte_selected g w j byte.0 k))
          (sym (append_assoc s.whole (points w ∷ operates BYTE_SUBSCRIPT ∷ []) (operates LOAD_BYTE ∷ [])))
          (lead_both first.leads
          (byte_loaded g w j byte.0 k kept.frame.workspace (omega (arith, ends, kept.frame.few, less))
          (omega (arith, ends, kept.frame.few, less)) first.a byte.2));
      a = sym byte.1;
      changes = first.changes;
      below = λ is. first.below is;
      alone = λ is. absurd (cc is);
    }

known_byte_by : (t : Bool) (g : Ground) (w n b : ℕ) (h : pieces.Held) → nat_eq (n % 4) 0 ≡ t
    → IsInFrame g.footing.depth → IsInFrame (w + n / 4) → byte_at h.memory (word_place w + n) ≡ Some b
    → (free : ℕ) (small : Bool)
    → Pushed g (cond t (points (word_after w (n / 4)) ∷ [])
    (constant (pos (n % 4)) ∷ points (word_after w (n / 4)) ∷ operates BYTE_SUBSCRIPT ∷ []) ++ operates LOAD_BYTE ∷ [])
    free false small (pos b) h
unfolding byte_selected
known_byte_by true g w n b h test workspace inside there free small =
    let even = eqb-true (n % 4) 0 test in
    let place : place_of (word_address (w + n / 4)) ≡ word_place w + n =
    words_have_places (w + n / 4) inside ∙ same_place even in
    record {
      after = with_a (pos b) (with_pushed (word_of (word_address (w + n / 4))) h);
      leads = subst (λ (word : ℕ). LeadOn g.footing (points word ∷ operates LOAD_BYTE ∷ []) h
          (with_a (pos b) (with_pushed (word_of (word_address (w + n / 4))) h))) (sym (word_is w (n / 4) inside))
          (lead_both (addresses_are_pushed g.footing (w + n / 4) h workspace inside)
          (bytes_are_loaded g.footing (word_address (w + n / 4)) b
          (with_pushed (word_of (word_address (w + n / 4))) h) (addresses_read_back.word (w + n / 4) inside)
          (ap (byte_at h.memory) place ∙ there)));
      a = refl;
      changes = all_alike free g.words h.memory;
      below = λ is. refl;
      alone = λ is. absurd (cc is);
    }
  where
    same_place : n % 4 ≡ 0 → word_place (w + n / 4) ≡ word_place w + n
    same_place even = omega (arith, even)
known_byte_by false g w n b h test workspace inside there free small =
    let k : pieces.Held = with_pushed (pos (n % 4)) h in
    let place : word_place (w + n / 4) + n % 4 ≡ word_place w + n = omega arith in
    record {
      after = byte_selected g (w + n / 4) (n % 4) b k;
      leads = subst (λ (word : ℕ). LeadOn g.footing
          (constant (pos (n % 4)) ∷ points word ∷ operates BYTE_SUBSCRIPT ∷ operates LOAD_BYTE ∷ []) h
          (byte_selected g (w + n / 4) (n % 4) b k)) (sym (word_is w (n / 4) inside))
          (lead_both (constants_are_pushed g.footing (pos (n % 4)) h)
          (byte_loaded g (w + n / 4) (n % 4) b k workspace inside (omega arith) refl
          (ap (byte_at h.memory) place ∙ there)));
      a = refl;
      changes = all_alike free g.words h.memory;
      below = λ is. refl;
      alone = λ is. absurd (cc is);
    }

pub known_bytes_push : KnownBytesPush
known_bytes_push g top t w es env name vs s small (negsuc n) v array is h carries = absurd (cc)
known_bytes_push g top t w es env name vs s small (pos n) v array is h carries =
    let ends = array_ends g top w es env name value_type.Byte vs h.memory array carries in
    let less = item_below n vs v is in
    let byte = array_kept g top es env name value_type.Byte (Word w) vs h.memory array carries n v is in
    subst (λ (x : ℤ). Pushed g (element_of_words value_type.Byte w (Some (pos n)) s) t false small x h) (sym byte.1)
    (known_byte_by (nat_eq (n % 4) 0) g w n byte.0 h refl carries.frame.workspace
    (omega (arith, ends, less, carries.frame.few)) byte.2 t small)
