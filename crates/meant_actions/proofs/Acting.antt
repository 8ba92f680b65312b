-- What pieces do where they lie, and what `SKIP` and `STOP` do.
use Rattle.std.proofs.Common.{◌≡◌, ℕ, ◌+◌, ◌<◌, ◌≤◌, List, [], ◌∷◌, ◌++◌, length, refl, sym, subst, arith}
use Rattle.module_format.specs.declared.limits.TheConstants.{MAX_DATA_WORDS}
use Rattle.scalar_ranges.specs.Environments.{Environment}
use Rattle.machine_state.specs.Memory.{Memory}
use Rattle.machine_state.specs.Instructions.{instruction_of, op_of}
use Rattle.prefix_decoder.specs.declared.function.Fun.TheVariants as fun
use Rattle.scalar_ranges.specs.Entries.{Entry}
use Rattle.program_meaning.specs.Doing.{Doing}
use Rattle.code_pieces.specs.declared.operations.TheConstants.{STOP_PROCESS}
use Rattle.code_pieces.specs.Pieces.{Piece, counted, word_after}
use Rattle.placed_code.specs.StraightPieces.{Footing, Held, LeadOn}
use Rattle.placed_code.specs.LaidCode as laid
use Rattle.placed_code.specs.LaidCode.{LaidCode, Lie}
use Rattle.placed_code.specs.Points.{Point, point}
use Rattle.placed_code.specs.Behaves.{Behaves, over, halts}
use Rattle.placed_code.proofs.PiecesGo.{straight_goes}
use Rattle.placed_code.proofs.Behaves.{steps_behave}
use Rattle.meant_lines.specs.Carrying.{Ground, Carries}
use Rattle.meant_lines.proofs.Operators.{first_stand, rest_stand}
use Rattle.meant_actions.specs.Acting.{AreWithin, SkipsBehave, StopsBehave}

-- what comes after straight pieces that lie there
pub straight_behaves : (c : LaidCode) (g : Ground) {End : Environment → Point → Type 0} {t : Doing} {at to : ℕ}
    {ps : List Piece} {h k : Held} → c.footing ≡ g.footing → Lie c at ps to → LeadOn g.footing ps h k
    → Behaves c End (point to k) t → Behaves c End (point at h) t
straight_behaves c g {ps = ps} {h = h} {k = k} footing lie leads behaves =
    steps_behave c (straight_goes c lie (subst (λ (w : Footing). LeadOn w ps h k) (sym footing) leads)) behaves

-- pieces lie where the first ones end
pub lie_both : (c : LaidCode) (at to : ℕ) (ps qs : List Piece) → Lie c at (ps ++ qs) to
    → (middle : ℕ) × Lie c at ps middle × Lie c middle qs to
lie_both c at to [] qs lie = (at, laid.none, lie)
lie_both c at to (p ∷ ps) qs (laid.more {middle = next} first rest) =
    let both = lie_both c next to ps qs rest in
    (both.0, laid.more first both.1, both.2)

pub none_there : (c : LaidCode) (at to : ℕ) → Lie c at [] to → at ≡ to
none_there c at to laid.none = refl

-- ---- what code stores

pub first_within : (g : Ground) (ps qs : List Piece) → AreWithin g (ps ++ qs) → AreWithin g ps
first_within g ps qs all = first_stand g ps qs all

pub rest_within : (g : Ground) (ps qs : List Piece) → AreWithin g (ps ++ qs) → AreWithin g qs
rest_within g ps qs all = rest_stand g ps qs all

-- a word that is stored is one of the frame
pub temporary_within : (g : Ground) (top : ℕ) (es : List Entry) (env : Environment) (m : Memory)
    → Carries g top es env m → counted top < g.words → top < g.words
unfolding counted
temporary_within g top es env m carries is =
    let few = carries.counted in
    omega (arith, few, is)

pub next_word : (t : ℕ) → t ≤ MAX_DATA_WORDS → word_after t 1 ≡ t + 1
unfolding word_after counted
next_word t few = omega (arith, few)

-- ---- nothing is done

pub skips_behave : SkipsBehave
skips_behave c g top at to es env h ports begins laid.none =
    over (record { at = refl; carries = begins.carries })

pub stops_behave : StopsBehave
unfolding instruction_of op_of
stops_behave c g top at to label es env h ports row (laid.more {middle = m} stop (laid.more there laid.none)) inside =
    halts (record {
      executes = record { function = fun.Operate; operand = STOP_PROCESS; behind = m; fetches = stop; is = refl };
      inside = subst (λ (x : ℕ). x < length c.code) (sym there.0) inside;
    })
