-- Where variables are in memory: beside what scheduling takes, and in the frame.
use Rattle.std.proofs.Common.{◌≡◌, ℕ, ◌+◌, ◌*◌, ◌<◌, ◌≤◌, ◌⊎◌, inl, inr, false, List}
use Rattle.std.proofs.Common.{Some, arith}
use Rattle.machine_state.specs.Memory.{Memory, place_of}
use Rattle.occam_parser.specs.declared.tree.ValueType.{ValueType}
use Rattle.occam_parser.specs.declared.tree.ValueType.TheVariants as value_type
use Rattle.occam_parser.specs.Expressions.{Expression}
use Rattle.scalar_ranges.specs.Entries.{Scalar, Array, Entry}
use Rattle.scalar_ranges.specs.Environments.{Environment}
use Rattle.program_meaning.specs.Links.{message_length}
use Rattle.code_pieces.specs.declared.modules.TheConstants.{BASE}
use Rattle.code_pieces.specs.Pieces.{Piece}
use Rattle.line_pieces.specs.Homes.{words_for}
use Rattle.line_pieces.specs.Expressions.{expression_code, is_leaf, is_small, subscript_code, subscript_of}
use Rattle.line_pieces.specs.Actions.{OwnWord, KnownElement, OtherElement, target_address}
use Rattle.placed_code.specs.StraightPieces.{Held, word_address, word_place}
use Rattle.meant_lines.specs.Words.{IsInFrame}
use Rattle.meant_lines.specs.Carrying.{Ground, Carries}
use Rattle.meant_lines.proofs.Words.{words_have_places}
use Rattle.meant_actions.specs.Acting.{AreWithin, IsScalar, IsInWords, IsSubscript}
use Rattle.meant_actions.specs.Exchanging.{IsUndisturbed}
use Rattle.meant_actions.proofs.Acting.{first_within}
use Rattle.meant_actions.proofs.Addressing.{Addressed, element_address, elements_have_places, word_addressed}
use Rattle.meant_actions.proofs.Addressing.{known_addressed, element_selected}
use Rattle.meant_actions.proofs.Variables.{element_place, element_word, scalar_within, array_within}
use Rattle.meant_actions.proofs.Variables.{element_within}

-- ---- room

-- These bytes are beside the words that scheduling takes, and in a frame of this number of words.
pub record IsBesideScheduling (depth words place count : ℕ) : Type 0 where
  pub beside : (place + count ≤ 4 * depth) ⊎ (word_place depth ≤ place)
  pub before : place + count ≤ word_place words

-- some of the words of a name
name_beside : (depth words w size place count : ℕ) → (w + size + BASE ≤ depth) ⊎ (depth ≤ w) → w + size ≤ words
    → word_place w ≤ place → place + count ≤ word_place (w + size) → IsBesideScheduling depth words place count
name_beside depth words w size place count apart ends low high = record {
  beside = by apart;
  before = omega (arith, ends, high);
}
  where
    by : (w + size + BASE ≤ depth) ⊎ (depth ≤ w) → (place + count ≤ 4 * depth) ⊎ (word_place depth ≤ place)
    by (inl below) = inl (omega (arith, below, high))
    by (inr above) = inr (omega (arith, above, low))

pub fewer_beside : (depth words place count fewer : ℕ) → fewer ≤ count → IsBesideScheduling depth words place count
    → IsBesideScheduling depth words place fewer
fewer_beside depth words place count fewer less room = record {
  beside = by room.beside;
  before = let ends = room.before in omega (arith, less, ends);
}
  where
    by : (place + count ≤ 4 * depth) ⊎ (word_place depth ≤ place)
        → (place + fewer ≤ 4 * depth) ⊎ (word_place depth ≤ place)
    by (inl below) = inl (omega (arith, less, below))
    by (inr above) = inr above

module _ (g : Ground) (top : ℕ) (es : List Entry) (env : Environment) (name : List ℕ) (type : ValueType)
    (m : Memory) (undisturbed : IsUndisturbed g top es) (carries : Carries g top es env m) where
  -- the word of a scalar
  pub scalar_beside : (n w : ℕ) → IsScalar g es name type n w
      → IsBesideScheduling g.footing.depth g.words (word_place w) 4
  scalar_beside n w scalar =
      name_beside g.footing.depth g.words w 1 (word_place w) 4
      (undisturbed.names name (Scalar scalar.kind type scalar.range) w scalar.means scalar.at)
      (scalar_within g top es env name type n w m scalar carries) (omega arith) (omega arith)

  within_words : (type : ValueType) (w i size : ℕ) → i < size
      → (word_place w ≤ element_place type w i)
      × (element_place type w i + message_length type ≤ word_place (w + words_for type size))
  within_words value_type.Int w i size less = (omega arith, omega (arith, less))
  within_words value_type.Byte w i size less = (omega arith, omega (arith, less))

  -- an element of an array
  pub element_beside : (size n w i : ℕ) → IsInWords g es name type size n w → i < size
      → IsBesideScheduling g.footing.depth g.words (element_place type w i) (message_length type)
  element_beside size n w i array less =
      let within = within_words type w i size less in
      name_beside g.footing.depth g.words w (words_for type size) (element_place type w i) (message_length type)
      (undisturbed.names name (Array array.kind type (Some size) array.range) w array.means array.at)
      (array_within g top es env name type size n w m array carries) within.0 within.1

-- ---- addresses of variables

-- The address of a variable of this type is pushed, and the variable is at this place.
pub record IsLocated (g : Ground) (top : ℕ) (ps : List Piece) (place count : ℕ) (h : Held) : Type 0 where
  pub a : ℕ
  pub addressed : Addressed g ps top a false h
  pub is : place_of a ≡ place
  pub room : IsBesideScheduling g.footing.depth g.words place count

module _ (g : Ground) (top : ℕ) (es : List Entry) (env : Environment) (name : List ℕ) (type : ValueType) (h : Held)
    (undisturbed : IsUndisturbed g top es) (carries : Carries g top es env h.memory) where
  pub scalar_located : (n w : ℕ) → IsScalar g es name type n w
      → IsLocated g top (target_address (OwnWord type w)) (word_place w) 4 h
  scalar_located n w scalar =
      let within = scalar_within g top es env name type n w h.memory scalar carries in
      let inside : IsInFrame w = omega (arith, within, carries.frame.few) in
      record {
        a = word_address w;
        addressed = word_addressed g w top false h carries.frame.workspace inside;
        is = words_have_places w inside;
        room = scalar_beside g top es env name type h.memory undisturbed carries n w scalar;
      }

module _ (g : Ground) (top : ℕ) (es : List Entry) (env : Environment) (name : List ℕ) (type : ValueType) (h : Held)
    (undisturbed : IsUndisturbed g top es) (carries : Carries g top es env h.memory) (size n w i : ℕ) (e : Expression)
    (array : IsInWords g es name type size n w) (sub : IsSubscript g top es env top size e i) where
  element_inside : IsInFrame (element_word type w i)
  element_inside =
      let within = element_within g top es env name type size n w i h.memory array sub.inside carries in
      omega (arith, within, carries.frame.few)

  pub known_located : IsLocated g top (target_address (KnownElement type w i)) (element_place type w i)
      (message_length type) h
  known_located = record {
    a = element_address type w i;
    addressed = known_addressed g type w i top false h carries.frame.workspace element_inside;
    is = elements_have_places type w i element_inside;
    room = element_beside g top es env name type h.memory undisturbed carries size n w i array sub.inside;
  }

  pub other_located : AreWithin g (target_address (OtherElement type w (subscript_of g.homes es top e)))
      → IsLocated g top (target_address (OtherElement type w (subscript_of g.homes es top e)))
      (element_place type w i) (message_length type) h
  other_located all =
      let code : List Piece = expression_code g.homes es top e in
      let found = element_selected g type code w i top (is_leaf es e) (is_small es e) h carries.frame.workspace
      element_inside (sub.pushed.pushes (first_within g code (subscript_code type w) all) h carries) in
      record {
        a = element_address type w i;
        addressed = record {
          after = found.after;
          leads = found.leads;
          at = found.at;
          changes = found.changes;
          below = λ is. absurd (cc is);
        };
        is = elements_have_places type w i element_inside;
        room = element_beside g top es env name type h.memory undisturbed carries size n w i array sub.inside;
      }
