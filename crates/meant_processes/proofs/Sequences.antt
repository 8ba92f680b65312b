-- Declarations, actions, and processes one after the other.
use Rattle.std.proofs.Common.{◌≡◌, ℕ, ◌≤◌, ℤ, true, List, [], length, Option, Some}
use Rattle.std.proofs.Common.{None, inl, inr, refl, sym, ap, subst, ◌∙◌, arith}
use Rattle.std.proofs.lemmas.Bool.{and_parts}
use Rattle.machine_state.specs.Memory.{Memory}
use Rattle.occam_layout.specs.declared.mark.Mark.TheVariants as mark
use Rattle.occam_parser.specs.Terminals.{Mark}
use Rattle.occam_parser.specs.Lines.{Action, Declaration}
use Rattle.occam_parser.specs.Blocks.{Act, Chosen, Components, Construct, Declared, Does, Further, Guarded}
use Rattle.occam_parser.specs.Blocks.{NoComponent, Part, Plain, Process}
use Rattle.occam_parser.specs.Words.{components_have_words, construct_has_words, declaration_has_words}
use Rattle.occam_parser.specs.Words.{process_has_words}
use Rattle.scalar_ranges.specs.Environments.{Environment}
use Rattle.scalar_ranges.specs.MoveLaws.{shape}
use Rattle.scalar_ranges.specs.Moves.{Known, begun_with, outermost}
use Rattle.scalar_ranges.proofs.MoveLaws.{as_long, shape_long}
use Rattle.program_uses.specs.Actions.{Around}
use Rattle.program_uses.specs.Changes.{changed_by, changed_by_components}
use Rattle.program_meaning.specs.Doing.{Doing, Leaves, doing, doing_component, doing_components}
use Rattle.program_meaning.specs.Doing.{doing_construct, doing_then, leaves, or_fails}
use Rattle.program_meaning.specs.GoingWell.{IsTrueIn}
use Rattle.program_meaning.specs.Sequential.{AreSequential, IsSequential, IsSequentialConstruct}
use Rattle.program_meaning.specs.Storing.{declare}
use Rattle.program_meaning.proofs.MovesWithin.{within_shape}
use Rattle.usage_checks.specs.AfterProcesses.{after_components, inside}
use Rattle.usage_checks.specs.ItemRules.{BreaksNoRule}
use Rattle.usage_checks.specs.Outlines.{IsMadeOf}
use Rattle.usage_checks.specs.Reaching.{AComponent, AProcess, Piece, Reaches, StandsAmong, behind, to_process}
use Rattle.usage_checks.proofs.PlacesHold.{places_hold}
use Rattle.usage_checks.proofs.RangesStay.{components_stay, covers_itself, declared_behind, left_is, ranges_stay}
use Rattle.usage_checks.proofs.RangesStay.{remains_low}
use Rattle.code_pieces.specs.Pieces as pieces
use Rattle.code_pieces.specs.Pieces.{Code, Row, before, then_code, written}
use Rattle.code_pieces.proofs.AllOfPieces.{all_first, all_last}
use Rattle.line_pieces.specs.Declarations.{declaration_code}
use Rattle.code_generator.specs.Processes.{Site, at_place, component_code, components_code, construct_code}
use Rattle.code_generator.specs.Processes.{process_code, with_declaration}
use Rattle.placed_code.specs.LaidCode.{LaidCode}
use Rattle.placed_code.specs.Behaves.{Behaves, any, over}
use Rattle.placed_code.specs.Points.{Point}
use Rattle.placed_code.proofs.PiecesGo.{straight_goes}
use Rattle.placed_code.proofs.Behaves.{followed, steps_behave}
use Rattle.meant_code.proofs.StraightLines.{declaration_is}
use Rattle.meant_lines.specs.Carrying.{Carries}
use Rattle.meant_processes.specs.Lying.{LieApart, PiecesBehave}
use Rattle.meant_processes.specs.Places.{AllFit, CarriedAt, FitsIn, IsPlaced, Program, ground, standing, surroundings}
use Rattle.meant_processes.specs.Premises.{DeclarationOpens, LinesBehave}
use Rattle.meant_processes.proofs.EachProcess.{OfEach}
use Rattle.meant_processes.proofs.Behaving.{no_pieces, pieces_as, pieces_both, pieces_well}
use Rattle.meant_processes.proofs.Carried.{scope_left}
use Rattle.meant_processes.proofs.CodeParts.{before_is, then_is, written_is}
use Rattle.meant_processes.proofs.Indices.{IndicesStay, action_leaves, indices_left, indices_same, indices_then}
use Rattle.meant_processes.proofs.Indices.{shape_outermost}
use Rattle.meant_processes.proofs.Lying.{apart_both, straight_lie}
use Rattle.meant_processes.proofs.Placing.{Left, carried_alike, declared_front, declared_out, left_alike, placed_alike}
use Rattle.meant_processes.proofs.Placing.{placed_behind, process_true}

-- From each place that is reached, the code of a process behaves, and leaves indices as they were.
pub record ProcessBehaves (p : Program) (process : Process) : Type 0 where
  pub behaves : (first : ℕ) (s : Site) (turns : ℕ → ℤ) (env : Environment) (c : Code)
      → Reaches p.items (standing p) (AProcess first process) s.known → IsSequential process
      → process_has_words process ≡ true → IsPlaced p s env → process_code (surroundings p) process s ≡ Some c
      → AllFit p c.pieces
      → PiecesBehave p.code (CarriedAt p s turns env) c.pieces (Left p s turns env) (doing p.ports process env)

pub record ConstructBehaves (p : Program) (construct : Construct) : Type 0 where
  pub behaves : (first line : ℕ) (s : Site) (turns : ℕ → ℤ) (env : Environment) (c : Code)
      → Reaches p.items (standing p) (AProcess first (Does line construct)) s.known
      → IsSequentialConstruct construct → construct_has_words construct ≡ true → IsPlaced p s env
      → construct_code (surroundings p) line construct s ≡ Some c → AllFit p c.pieces
      → PiecesBehave p.code (CarriedAt p s turns env) c.pieces (Left p s turns env)
      (doing_construct p.ports construct env)

abbrev pub EachBehaves : {part : Part} → Program → Components part → Type 0
EachBehaves p cs = OfEach (ProcessBehaves p) cs

-- Behind components of a SEQ the same names are known, and each block that is open begins before them.
pub components_remain : {part : Part} (a : Around) (cs : Components part) (k : Known) → IsMadeOf (Mark mark.Seq) part
    → begun_with k.blocks ≤ length k.entries
    → (begun_with (after_components a (Mark mark.Seq) cs k).blocks
    ≤ length (after_components a (Mark mark.Seq) cs k).entries)
    × (shape (after_components a (Mark mark.Seq) cs k).entries ≡ shape k.entries)
components_remain a cs k made low =
    let m = after_components a (Mark mark.Seq) cs k in
    let ns = changed_by_components a.signatures k.entries cs in
    let remains = components_stay a ns (Mark mark.Seq) cs k made (covers_itself ns) low in
    (remains_low ns k m remains low, within_shape ns m.entries k.entries remains.within)

-- scopes are left behind pieces
pub pieces_left : (c : LaidCode) {Before : Memory → Type 0} {Inner After : Environment → Memory → Type 0}
    {ps : List pieces.Piece} {t : Doing} (count : ℕ)
    → ((e : Environment) (m : Memory) → Inner e m → After (outermost count e) m) → PiecesBehave c Before ps Inner t
    → PiecesBehave c Before ps After (leaves count t)
pieces_left c count leave b = record {
  behaves = λ at_row at to h lie inside_code holds.
      followed c (λ e. Leaves (outermost count e)) (b.behaves at_row at to h lie inside_code holds)
      (λ e q came. over (came.0, leave e q.held.memory came.1));
}

pub indices_here : {p : Program} (s : Site) (env : Environment) → IsPlaced p s env
    → IndicesStay (shape s.known.entries) env env
indices_here s env placed =
    indices_same (shape s.known.entries) env
    (shape_long s.known.entries ∙ sym (as_long env s.known.entries placed.holds.meets))

module _ (p : Program) (none : BreaksNoRule p.items) where
  -- ---- declarations

  by_value : {P : Environment → Point → Type 0} {at : Point} (o : Option Environment) (f : Environment → Doing)
      → ((inner : Environment) → o ≡ Some inner → Behaves p.code P at (f inner)) → Behaves p.code P at (or_fails o f)
  by_value None f all = any
  by_value (Some inner) f all = all inner refl

  -- the scope of a declaration is left
  declared_left : (d : Declaration) (s : Site) (turns : ℕ → ℤ) (env inner e : Environment) (m start : Memory)
      → IsPlaced p s env → declare d env ≡ Some inner → CarriedAt p s turns env start
      → Left p (with_declaration d s) turns inner e m → Left p s turns env (outermost (length env) e) m
  declared_left d s turns env inner e m start placed declares begins left =
      let es = s.known.entries in
      let si = with_declaration d s in
      let same = as_long env es placed.holds.meets in
      let homes = placed.long in (
        record {
          carries = subst (λ n. Carries (ground p s.frame.homes turns) s.frame.top es (outermost n e) m) (sym same)
              (scope_left p si.frame.homes s.frame.homes turns turns m (length es) s.frame.top si.frame.top es
              si.known.entries e (declared_behind d es)
              (λ i less. sym (declared_front es d s.frame i (omega (arith, less, homes)))) (λ w less. refl)
              begins.carries.rise begins.carries.room begins.carries.counted left.0.carries);
        },
        subst (λ old. IndicesStay (shape es) old (outermost (length env) e)) (declared_out d env inner declares)
            (subst (λ fs. IndicesStay fs (outermost (length env) inner) (outermost (length env) e))
            (sym (shape_outermost (length env) si.known.entries)
            ∙ ap (λ n. shape (outermost n si.known.entries)) same ∙ ap shape (declared_behind d es))
            (indices_left (length env) (shape si.known.entries) inner e left.1)),
      )

  pub declared_behaves : (d : Declaration) (q : Process) → DeclarationOpens p d → ProcessBehaves p q
      → ProcessBehaves p (Declared d q)
  declared_behaves d q opens behaves = record {
    behaves = λ first s turns env c reached sequential words placed is fit. record {
      behaves = λ at_row at to h lie inside_code begins.
          let es = s.known.entries in
          let decl = declaration_code es d s.frame.top in
          let si = with_declaration d s in
          let right = places_hold p.items (standing p) (AProcess first (Declared d q)) s.known none reached in
          let both = and_parts (declaration_has_words d) (process_has_words q) words in
          let b = before_is decl (process_code (surroundings p) q si) c is in
          let fits = subst (AllFit p) b.pieces fit in
          let parts = apart_both p.code at_row at to decl b.rest.pieces
          (subst (λ ps. LieApart p.code at_row at ps to) b.pieces lie) in
          by_value (declare d env) (λ inner. leaves (length env) (doing p.ports q inner))
          (λ inner declares.
          let o = opens first q s turns env inner h reached placed both.0 declares
          (all_first (FitsIn p) decl b.rest.pieces fits) begins in
          let entered = placed_behind p s d env inner placed right.holds both.0 declares in
          let run = behaves.behaves first si turns inner b.rest
          (behind (standing p) first d q s.known reached) sequential both.1 entered b.is
          (all_last (FitsIn p) decl b.rest.pieces fits) in
          steps_behave p.code
          (straight_goes p.code
          (straight_lie p.code at_row at parts.middle decl (declaration_is es d s.frame.top) parts.first) o.leads)
          ((pieces_left p.code (length env)
          (λ e m left. declared_left d s turns env inner e m h.memory placed declares begins left) run).behaves
          parts.after_row parts.middle to o.after parts.second inside_code o.carries));
    };
  }

  -- ---- actions

  pub act_behaves : (action : Action) → LinesBehave p → ConstructBehaves p (Act action)
  act_behaves action lines = record {
    behaves = λ first line s turns env c reached sequential words placed is fit.
        let es = s.known.entries in
        let right = places_hold p.items (standing p) (AProcess first (Does line (Act action))) s.known none
        reached in
        let stays = action_leaves p.around.signatures es env p.ports action placed.holds.meets right.holds in
        pieces_well p.code (IndicesStay (shape es) env)
        (lines first line action s turns env c reached placed words is fit) stays;
  }

  -- ---- components of a SEQ

  -- what holds behind them
  abbrev pub Followed : {part : Part} → Components part → Site → (ℕ → ℤ) → Environment → Environment → Memory → Type 0
  Followed cs s turns env after m = Left p s turns env after m
      × IsTrueIn (after_components p.around (Mark mark.Seq) cs s.known).entries after

  pub components_behave : {part : Part} (cs : Components part) (s : Site) (turns : ℕ → ℤ)
      (env : Environment) (c : Code)
      → ((piece : Piece) (m : Known) → StandsAmong p.around (Mark mark.Seq) cs s.known piece m
      → Reaches p.items (standing p) piece m)
      → EachBehaves p cs → IsMadeOf (Mark mark.Seq) part → AreSequential (Mark mark.Seq) cs
      → components_have_words cs ≡ true → IsPlaced p s env → components_code (surroundings p) cs s ≡ Some c
      → AllFit p c.pieces
      → PiecesBehave p.code (CarriedAt p s turns env) c.pieces (Followed cs s turns env)
      (doing_components p.ports cs env)
  components_behave {part} NoComponent s turns env c reach each made sequential words placed is fit =
      subst (λ ps. PiecesBehave p.code (CarriedAt p s turns env) ps (Followed {part = part} NoComponent s turns env) (Leaves env))
      (sym (written_is [] s.label c is))
      (no_pieces p.code env (λ m carries.
      ((carries, indices_here s env placed), placed.holds)))
  components_behave (Further cs (Plain q)) s turns env c reach each made sequential words placed is fit =
      let a = p.around in
      let w = surroundings p in
      let m = after_components a (Mark mark.Seq) cs s.known in
      let both = and_parts (components_have_words cs) (process_has_words q) words in
      let remain = components_remain a cs s.known made placed.sited.low in
      let here = to_process (standing p) (Plain q) m (reach (AComponent (Plain q)) m (inl (refl, refl))) in
      let t = then_is (components_code w cs s) (λ label. component_code w (Plain q) (at_place m label s)) c is in
      let fits = subst (AllFit p) t.pieces fit in
      let sm = at_place m t.first.labels s in
      let stays = ranges_stay.processes a q m remain.0 in
      subst (λ ps. PiecesBehave p.code (CarriedAt p s turns env) ps (Followed (Further cs (Plain q)) s turns env)
      (doing_then (doing_components p.ports cs env) (doing_component p.ports (Plain q)))) (sym t.pieces)
      (pieces_both p.code (doing_component p.ports (Plain q))
      (components_behave cs s turns env t.first (λ piece x among. reach piece x (inr among)) each.0 made
      sequential.0 both.0 placed t.first_is (all_first (FitsIn p) t.first.pieces t.last.pieces fits))
      (λ e. record {
        behaves = λ at_row at to h lie inside_code begins.
            let there = placed_alike p s m t.first.labels env e placed remain.1 remain.0 begins.1 in
            (pieces_as p.code (λ x carries. carried_alike p s m t.first.labels turns e x remain.1 carries)
            (λ after x left.
            let back = left_alike p s m t.first.labels turns e after x remain.1 left.0 in (
              (back.0, indices_then (shape s.known.entries) env e after begins.0.1 back.1),
              subst (λ es. IsTrueIn es after)
                  (sym (left_is (changed_by a.signatures m.entries q) m (inside a q m) stays remain.0)) left.1,
            ))
            (pieces_well p.code (IsTrueIn (outermost (length m.entries) (inside a q m).entries))
            (each.1.behaves (length m.entries) sm turns e t.last here sequential.1 both.1 there t.last_is
            (all_last (FitsIn p) t.first.pieces t.last.pieces fits))
            (process_true p (length m.entries) q sm e none here sequential.1 both.1 there))).behaves
            at_row at to h lie inside_code begins.0.0;
      }))
  components_behave (Further cs (Chosen line e q)) s turns env c reach each made sequential words placed is fit =
      absurd sequential.1
  components_behave (Further cs (Guarded line g q)) s turns env c reach each made sequential words placed is
      fit =
      absurd sequential.1
