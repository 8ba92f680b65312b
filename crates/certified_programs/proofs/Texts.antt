-- No text that a process of a program declares is empty, if the program breaks no rule: the walk comes to each.
use Rattle.std.proofs.Common.{◌≡◌, ℕ, ◌<◌, ◌≤◌, ℤ, Bool, true, false, cond, List, length, Option, Some, None, inl, inr}
use Rattle.std.proofs.Common.{refl, arith}
use Rattle.std.specs.Prelude.{⊤, int_le, unsigned_abs, pos, ◌+ℤ◌}
use Rattle.std.proofs.lemmas.Bool.{and_parts}
use Rattle.std.proofs.lemmas.Int.{ints}
use Rattle.small_laws.proofs.Comparisons.{int_le-true}
use Rattle.word_arithmetic.specs.Word.{greatest_word}
use Rattle.occam_parser.specs.Terminals.{Terminal}
use Rattle.occam_parser.specs.Lines.{Channels, Constants, Declaration, Replicator, Value, Variables, block_word}
use Rattle.occam_parser.specs.Lines as lines
use Rattle.occam_parser.specs.Blocks.{Act, Block, Body, Chosen, Component, Components, Construct, Declared, Does}
use Rattle.occam_parser.specs.Blocks.{Further}
use Rattle.occam_parser.specs.Blocks.{Guarded, NoComponent, One, Part, Plain, Process, ProgramItem, Replicated}
use Rattle.scalar_ranges.specs.declared.types.ExprType.TheVariants as types
use Rattle.scalar_ranges.specs.Entries.{Entry}
use Rattle.scalar_ranges.specs.Moves.{Known}
use Rattle.program_uses.specs.Actions.{is_before}
use Rattle.program_uses.specs.Constants.{value_as}
use Rattle.program_uses.specs.Indices.{is_seq, is_count, turns_for}
use Rattle.usage_checks.specs.Holding.{DeclarationHolds, ValueHolds}
use Rattle.usage_checks.specs.ItemRules.{BreaksNoRule}
use Rattle.usage_checks.specs.Reaching.{AComponent, AProcess, Piece as Place, Reaches, Standing, StandsAmong, behind}
use Rattle.usage_checks.specs.Reaching.{in_block, to_part, to_process}
use Rattle.usage_checks.proofs.KnownValues.{size_positive}
use Rattle.usage_checks.proofs.PlacesHold.{places_hold}

-- ---- texts

-- it is no empty text
abbrev pub IsText : Value → Type 0
IsText (lines.Bytes size bytes) = 1 ≤ length bytes
IsText value = ⊤

abbrev pub DeclaresText : Declaration → Type 0
DeclaresText (Constants c) = IsText c.value
DeclaresText d = ⊤

abbrev mutual
  pub HasTexts : Process → Type 0
  HasTexts (Declared d p) = DeclaresText d × HasTexts p
  HasTexts (Does line c) = ConstructHasTexts c

  pub ConstructHasTexts : Construct → Type 0
  ConstructHasTexts (Act action) = ⊤
  ConstructHasTexts (Block kind cs) = HaveTexts cs
  ConstructHasTexts (Replicated r b) = BodyHasTexts b

  pub BodyHasTexts : Body → Type 0
  BodyHasTexts (One kind c) = PartHasTexts c

  pub HaveTexts : {part : Part} → Components part → Type 0
  HaveTexts NoComponent = ⊤
  HaveTexts (Further cs c) = HaveTexts cs × PartHasTexts c

  pub PartHasTexts : {part : Part} → Component part → Type 0
  PartHasTexts (Plain p) = HasTexts p
  PartHasTexts (Chosen line e p) = HasTexts p
  PartHasTexts (Guarded line g p) = HasTexts p

-- ---- declarations

value_text : (es : List Entry) (type : _) (value : Value) → ValueHolds es type value → IsText value
value_text es type (lines.Scalar e) holds = tt
value_text es type (lines.Table size items) holds = tt
value_text es type (lines.Bytes size bytes) holds = size_positive es size (length bytes) holds.0

pub declaration_text : (es : List Entry) (d : Declaration) → DeclarationHolds es d → DeclaresText d
declaration_text es (Constants c) holds = value_text es c.value_type c.value holds
declaration_text es (Variables n) holds = tt
declaration_text es (Channels n) holds = tt

-- ---- turns

one_at_least : (b : Bool) (base count : ℤ) → is_count base count ≡ b → 0 < cond b (unsigned_abs count) 1
one_at_least true base count is =
    let low = int_le-true (pos 1) count
    (and_parts (int_le (pos 1) count) (int_le (base +ℤ count) (greatest_word +ℤ pos 1)) is).0 in
    omega (arith, ints, low)
one_at_least false base count is = omega arith

-- the body of a replicator is gone over once at least
some_turn : (counted sequential : Bool) (base count : Option ℤ) → 0 < (turns_for counted sequential base count).count
some_turn counted true base count = omega arith
some_turn counted false None count = omega arith
some_turn false false (Some base) count = omega arith
some_turn true false (Some base) None = omega arith
some_turn true false (Some base) (Some count) = one_at_least (is_count base count) base count refl

-- ---- the walk

module _ (items : List ProgramItem) (unbroken : BreaksNoRule items) where
  mutual
    pub process_texts : (p : Process) (s : Standing) (first : ℕ) (k : Known) → Reaches items s (AProcess first p) k
        → HasTexts p
    process_texts (Declared d p) s first k reached = (
      declaration_text k.entries d (places_hold items s (AProcess first (Declared d p)) k unbroken reached).holds,
      process_texts p s first _ (behind s first d p k reached),
    )
    process_texts (Does line c) s first k reached = construct_texts line c s first k reached

    construct_texts : (line : ℕ) (c : Construct) (s : Standing) (first : ℕ) (k : Known)
        → Reaches items s (AProcess first (Does line c)) k → ConstructHasTexts c
    construct_texts line (Act action) s first k reached = tt
    construct_texts line (Block kind cs) s first k reached =
        components_texts (block_word kind) cs _ (in_block (block_word kind) k s)
        (λ piece l stands. to_part s (in_block (block_word kind) k s) first line (Block kind cs) piece k l reached
        (refl, stands))
    construct_texts line (Replicated r b) s first k reached = body_texts line r b s first k reached

    body_texts : (line : ℕ) (r : Replicator) (b : Body) (s : Standing) (first : ℕ) (k : Known)
        → Reaches items s (AProcess first (Does line (Replicated r b))) k → BodyHasTexts b
    body_texts line r (One kind c) s first k reached =
        component_texts c (in_block (block_word kind) k s) _
        (to_part s (in_block (block_word kind) k s) first line (Replicated r (One kind c)) (AComponent c) k _ reached (
          0,
          refl,
          refl,
          some_turn (is_before line s.around.uncounted) (is_seq (block_word kind)) (value_as k.entries types.Int r.base)
              (value_as k.entries types.Int r.count),
          refl,
        ))

    components_texts : {part : Part} (word : Terminal) (cs : Components part) (k : Known) (t : Standing)
        → ((piece : Place) (l : Known) → StandsAmong t.around word cs k piece l → Reaches items t piece l)
        → HaveTexts cs
    components_texts word NoComponent k t reach = tt
    components_texts word (Further cs c) k t reach = (
      components_texts word cs k t (λ piece l stands. reach piece l (inr stands)),
      component_texts c t _ (reach _ _ (inl (refl, refl))),
    )

    component_texts : {part : Part} (c : Component part) (s : Standing) (k : Known) → Reaches items s (AComponent c) k
        → PartHasTexts c
    component_texts (Plain p) s k reached = process_texts p s _ _ (to_process s (Plain p) k reached)
    component_texts (Chosen line e p) s k reached = process_texts p s _ _ (to_process s (Chosen line e p) k reached)
    component_texts (Guarded line g p) s k reached = process_texts p s _ _ (to_process s (Guarded line g p) k reached)
