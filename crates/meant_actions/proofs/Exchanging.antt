-- What stays while a process waits, and the address of a link.
use Rattle.std.proofs.Common.{◌≡◌, ℕ, ◌+◌, ◌<◌, ◌≤◌, inr, ℤ, pos, Bool, true, false, nat_eq}
use Rattle.std.proofs.Common.{List, [], ◌∷◌, length, Option, Some, None, refl, sym, ◌∙◌, arith}
use Rattle.std.specs.Prelude.{slice_get, if◌then◌else◌}
use Rattle.std.proofs.lemmas.Bool.{eqb-true}
use Rattle.std.proofs.lemmas.Int.{ints}
use Rattle.word_arithmetic.specs.Word.{least_word}
use Rattle.prefix_decoder.specs.declared.function.Fun.TheVariants as fun
use Rattle.machine_state.specs.Memory.{Memory, byte_at, word_at, local_address}
use Rattle.machine_state.specs.LocalStep.{address, word_of}
use Rattle.machine_state.specs.World.{link_word}
use Rattle.machine_state.proofs.Reading.{word_at_same}
use Rattle.occam_parser.specs.declared.tree.ValueType.{ValueType}
use Rattle.occam_parser.specs.declared.tree.ValueType.TheVariants as value_type
use Rattle.scalar_ranges.specs.Entries.{Meaning, Constant, Scalar, Array, Channel, Channels, Procedure, Entry}
use Rattle.scalar_ranges.specs.Environments.{Held, Nothing, One, Many, Environment}
use Rattle.code_pieces.specs.declared.operations.TheConstants.{MINIMUM_INTEGER}
use Rattle.code_pieces.specs.Pieces.{Piece, Direct, operates}
use Rattle.line_pieces.specs.Homes as home
use Rattle.line_pieces.specs.Homes.{Home, Nowhere, Word, Block, Link, Passed}
use Rattle.line_pieces.specs.Actions.{link_code}
use Rattle.placed_code.specs.StraightPieces as pieces
use Rattle.placed_code.specs.StraightPieces.{Footing, LeadOn, with_pushed, word_place}
use Rattle.placed_code.proofs.StraightPieces.{lead_both}
use Rattle.placed_code.proofs.TablesInMemory.{tables_stay}
use Rattle.placed_code.specs.Behaves.{IsScheduling}
use Rattle.meant_lines.specs.Carrying.{Ground, HoldsWord, HoldsArray, HoldsTable, IsScalarKept, IsArrayKept}
use Rattle.meant_lines.specs.Carrying.{IsKeptThere, AreKept, Carries}
use Rattle.meant_lines.proofs.Words.{addresses_read_back}
use Rattle.meant_lines.proofs.Instructions.{least_word_is_pushed, addresses_move_on}
use Rattle.meant_actions.specs.Exchanging.{RootsAreUndisturbed}

-- ---- where all words of the frame are as they were

module _ (g : Ground) (old new : Memory)
    (same : (place : ℕ) → word_place 0 ≤ place → byte_at new place ≡ byte_at old place) where
  words_same : (place : ℕ) → word_place 0 ≤ place → word_at new place ≡ word_at old place
  words_same place low =
      word_at_same new old place (same place low) (same (place + 1) (omega (arith, low)))
      (same (place + 2) (omega (arith, low))) (same (place + 3) (omega (arith, low)))

  number_same : (w : ℕ) (v : ℤ) → HoldsWord old w v → HoldsWord new w v
  number_same w v is = record {
    is = words_same (word_place w) (omega arith) ∙ is.is;
    bytes = λ i byte less there. is.bytes i byte less (sym (same (word_place w + i) (omega arith)) ∙ there);
  }

  array_same : (type : ValueType) (w : ℕ) (vs : List ℤ) → HoldsArray type old w vs → HoldsArray type new w vs
  array_same value_type.Int w vs holds = λ i v is. number_same (w + i) v (holds i v is)
  array_same value_type.Byte w vs holds = λ i v is.
      let there = holds i v is in
      (there.0, there.1, same (word_place w + i) (omega arith) ∙ there.2, there.3)

  table_same : (values : List ℤ) → HoldsTable g old values → HoldsTable g new values
  table_same values table =
      tables_stay g.footing g.words old new values (λ place far. same place (omega (arith, far))) table

  scalar_same : (h : Home) (held : Held) → IsScalarKept g old h held → IsScalarKept g new h held
  scalar_same (Word w) (One v) is = number_same w v is
  scalar_same (Block w head) (One v) is = (
    words_same (word_place w) (omega arith) ∙ is.0,
    words_same (word_place (w + 1)) (omega arith) ∙ is.1,
  )
  scalar_same (Word w) Nothing is = absurd is
  scalar_same (Word w) (Many vs) is = absurd is
  scalar_same (Block w head) Nothing is = absurd is
  scalar_same (Block w head) (Many vs) is = absurd is
  scalar_same Nowhere held is = absurd is
  scalar_same (Link n) held is = absurd is
  scalar_same (home.Table values) held is = absurd is
  scalar_same (Passed w) held is = absurd is

  elements_same : (h : Home) (type : ValueType) (held : Held) → IsArrayKept g old h type held
      → IsArrayKept g new h type held
  elements_same (Word w) type (Many vs) is = array_same type w vs is
  elements_same (home.Table values) type (Many vs) is = (is.0, λ reads. table_same values (is.1 reads))
  elements_same (Word w) type Nothing is = absurd is
  elements_same (Word w) type (One v) is = absurd is
  elements_same (home.Table values) type Nothing is = absurd is
  elements_same (home.Table values) type (One v) is = absurd is
  elements_same Nowhere type held is = absurd is
  elements_same (Block w head) type held is = absurd is
  elements_same (Link n) type held is = absurd is
  elements_same (Passed w) type held is = absurd is

  kept_same : (h : Option Home) (k : Meaning) (held : Held) → IsKeptThere g old h k held → IsKeptThere g new h k held
  kept_same None k held is = absurd is
  kept_same (Some h) (Scalar kind type range) held is = scalar_same h held is
  kept_same (Some h) (Array kind type size range) held is = elements_same h type held is
  kept_same (Some h) (Constant type value) held is = tt
  kept_same (Some h) (Channel type) held is = tt
  kept_same (Some h) (Channels type size) held is = tt
  kept_same (Some h) (Procedure number) held is = tt

  all_same : (es : List Entry) (env : Environment) → AreKept g old es env → AreKept g new es env
  all_same [] [] kept = tt
  all_same [] (b ∷ bs) kept = absurd kept
  all_same (e ∷ es) [] kept = absurd kept
  all_same (e ∷ es) (b ∷ bs) kept =
      (kept_same (slice_get g.homes (length es)) e.meaning b.held kept.0, all_same es bs kept.1)

  pub carries_same : (top : ℕ) (es : List Entry) (env : Environment) → length new ≡ length old
      → Carries g top es env old → Carries g top es env new
  carries_same top es env size carries = record {
    frame = record {
      workspace = carries.frame.workspace;
      few = carries.frame.few;
      inside = let inside = carries.frame.inside in omega (arith, inside, size);
    };
    kept = all_same es env carries.kept;
    rise = carries.rise;
    room = carries.room;
    counted = carries.counted;
    tables = λ values reads fit. table_same values (carries.tables values reads fit);
  }

-- in the root these words lie before the frame
not_scheduling : (depth place : ℕ) → depth ≡ 0 → word_place 0 ≤ place → IsScheduling depth place → ⊥
not_scheduling depth place root low is =
    let high = is.1 in absurd (omega (arith, root, low, high))

pub roots_are_undisturbed : RootsAreUndisturbed
roots_are_undisturbed g top es root = record {
  free = omega (arith, root);
  names = λ name k w means at. inr (omega (arith, root));
  carries = λ env old new changes carries.
      carries_same g old new
      (λ place low. changes.same place (not_scheduling g.footing.depth place root low))
      top es env changes.size carries;
}

-- ---- links

-- the address of a link is pushed
pub record LinkPushed (w : Footing) (ps : List Piece) (n : ℕ) (h : pieces.Held) : Type 0 where
  pub channel : ℤ
  pub leads : LeadOn w ps h (with_pushed channel h)
  pub is : address channel ≡ link_word n

first_is : (n : ℕ) → nat_eq n 0 ≡ true → address least_word ≡ link_word n
first_is n test = let none = eqb-true n 0 test in omega (arith, ints, none)

further_is : (n : ℕ) → n < 8 → local_address (address least_word) (pos n) ≡ link_word n
unfolding local_address
further_is n few = omega (arith, ints, few)

link_by : (w : Footing) (n : ℕ) (h : pieces.Held) (t : Bool) → nat_eq n 0 ≡ t → n < 8
    → LinkPushed w (operates MINIMUM_INTEGER ∷ (if t then [] else Direct fun.LoadNonLocalPointer (pos n) ∷ [])) n h
link_by w n h true test few = record {
  channel = least_word;
  leads = least_word_is_pushed w h;
  is = first_is n test;
}
link_by w n h false test few = record {
  channel = word_of (local_address (address least_word) (pos n));
  leads = lead_both (least_word_is_pushed w h)
      (addresses_move_on w (pos n) (address least_word) (with_pushed least_word h) refl);
  is = addresses_read_back.further (address least_word) (pos n) ∙ further_is n few;
}

pub link_pushed : (w : Footing) (n : ℕ) (h : pieces.Held) → n < 8 → LinkPushed w (link_code n) n h
link_pushed w n h few = link_by w n h (nat_eq n 0) refl few
