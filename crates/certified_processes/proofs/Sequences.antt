-- Declarations, and processes one after the other.
use Rattle.std.proofs.Common.{◌≡◌, ℕ, true, List, [], length, Some, inl, inr, refl, sym, ap}
use Rattle.std.proofs.Common.{subst, ◌∙◌, arith}
use Rattle.std.proofs.lemmas.Bool.{and_parts}
use Rattle.occam_layout.specs.declared.mark.Mark.TheVariants as mark
use Rattle.occam_parser.specs.Terminals.{Mark}
use Rattle.occam_parser.specs.Lines.{Action, Channels, Constants, Declaration, Variables}
use Rattle.occam_parser.specs.Blocks.{Act, Chosen, Components, Construct, Declared, Does, Further, Guarded}
use Rattle.occam_parser.specs.Blocks.{NoComponent, Part, Plain, Process}
use Rattle.occam_parser.specs.Words.{components_have_words, construct_has_words, declaration_has_words}
use Rattle.occam_parser.specs.Words.{process_has_words}
use Rattle.scalar_ranges.specs.Entries.{Entry}
use Rattle.scalar_ranges.specs.Moves.{Known, outermost}
use Rattle.scalar_ranges.proofs.Nesting.{outermost_twice}
use Rattle.program_uses.specs.Changes.{changed_by}
use Rattle.program_uses.specs.Declaring.{add_declaration}
use Rattle.program_meaning.specs.Sequential.{AreSequential, IsSequential, IsSequentialConstruct}
use Rattle.usage_checks.specs.AfterProcesses.{after_components, after_construct, inside}
use Rattle.usage_checks.specs.Holding.{DeclarationHolds}
use Rattle.usage_checks.specs.Outlines.{IsMadeOf}
use Rattle.usage_checks.specs.Reaching.{AComponent, AProcess, Piece, Reaches, StandsAmong, behind}
use Rattle.usage_checks.specs.Reaching.{to_process}
use Rattle.usage_checks.specs.TypedRanges.{AreInTypes}
use Rattle.usage_checks.proofs.PlacesHold.{places_hold}
use Rattle.usage_checks.proofs.RangesStay.{all_outermost, declared_long, left_is}
use Rattle.usage_checks.proofs.RangesStay.{ranges_stay}
use Rattle.usage_checks.proofs.RangesTyped.{ranges_are_typed}
use Rattle.usage_checks.proofs.TypedMoves.{typed_left}
use Rattle.code_pieces.specs.Pieces as pieces
use Rattle.code_pieces.specs.Pieces.{Code}
use Rattle.code_pieces.proofs.AllOfPieces.{all_first, all_last}
use Rattle.line_pieces.specs.Declarations.{declaration_code, declared}
use Rattle.line_pieces.specs.Homes.{Home}
use Rattle.code_generator.specs.Processes.{Site, at_place, component_code, components_code, construct_code}
use Rattle.code_generator.specs.Processes.{process_code, with_declaration}
use Rattle.certified_lines.specs.Scopes.{HoldsScope}
use Rattle.certified_lines.specs.StraightRules.{FallOn, Told, done}
use Rattle.certified_lines.proofs.Telling.{stay_alike}
use Rattle.certified_actions.proofs.Declaring.{declarations_fall}
use Rattle.certified_modules.specs.Passing.{OpenLabel, both, none, straight}
use Rattle.certified_scopes.specs.Kept.{AreDeclared, HasFew}
use Rattle.certified_scopes.specs.Settled.{AreOrdered}
use Rattle.certified_scopes.proofs.Indices.{index_lengths}
use Rattle.certified_scopes.proofs.Kept.{declared_names_are_held, left_scopes_are_held}
use Rattle.certified_scopes.proofs.ProcessesKeep.{indices_are_kept}
use Rattle.certified_scopes.proofs.TurnsWithin.{processes_leave_scopes_settled}
use Rattle.meant_processes.specs.Places.{AllFit, FitsIn, standing, surroundings}
use Rattle.meant_processes.proofs.EachProcess.{OfEach}
use Rattle.meant_processes.proofs.Sequences.{components_remain}
use Rattle.meant_processes.proofs.CodeParts.{before_is, then_is, written_is}
use Rattle.certified_processes.specs.Places.{Coded, IsInRoot, bare_scene, scene, scene_at}
use Rattle.certified_processes.proofs.There.{IsThere}
use Rattle.certified_processes.specs.ProcessesPass.{PassesTo, left_by}
use Rattle.certified_processes.proofs.Allowed.{allowed}
use Rattle.certified_processes.proofs.Lines.{action_passes, same_scope}
use Rattle.certified_processes.proofs.LabelsRise.{Rises, components_rise}
use Rattle.certified_processes.proofs.Ordered.{left_ordered, scope_ordered}
use Rattle.certified_processes.proofs.Placing.{declared_more, placed_alike, placed_behind, variables_within}
use Rattle.certified_processes.proofs.Wider.{scope_wider}

-- From each place that is reached, the code of a process passes.
pub record ProcessGoes (p : Coded) (process : Process) : Type 0 where
  pub passes : (first : ℕ) (s : Site) (opened : List OpenLabel) (before : Told) (c : Code)
      → Reaches p.program.items (standing p.program) (AProcess first process) s.known → IsSequential process
      → process_has_words process ≡ true → IsThere p s → process_code (surroundings p.program) process s ≡ Some c
      → AllFit p.program c.pieces → HoldsScope (scene p s) s.known.entries before.frame
      → PassesTo p s.frame (left_by p process s) opened c.pieces before

pub record ConstructGoes (p : Coded) (construct : Construct) : Type 0 where
  pub passes : (first line : ℕ) (s : Site) (opened : List OpenLabel) (before : Told) (c : Code)
      → Reaches p.program.items (standing p.program) (AProcess first (Does line construct)) s.known
      → IsSequentialConstruct construct → construct_has_words construct ≡ true → IsThere p s
      → construct_code (surroundings p.program) line construct s ≡ Some c → AllFit p.program c.pieces
      → HoldsScope (scene p s) s.known.entries before.frame
      → PassesTo p s.frame (after_construct p.program.around line construct s.known).entries opened c.pieces before

abbrev pub EachGoes : {part : Part} → Coded → Components part → Type 0
EachGoes p cs = OfEach (ProcessGoes p) cs

module _ (p : Coded) (root : IsInRoot p) where
  -- ---- declarations

  -- what the code of a declaration leads to
  record Declares (s : Site) (d : Declaration) (before : Told) : Type 0 where
    after : Told
    falls : FallOn p.passage.setting (declaration_code s.known.entries d s.frame.top) before after
    holds : HoldsScope (scene p (with_declaration d s)) (add_declaration d s.known.entries) after.frame

  -- one without code
  declares_silently : (s : Site) (d : Declaration) (before : Told) → IsThere p s
      → FallOn p.passage.setting (declaration_code s.known.entries d s.frame.top) before before
      → HasFew d (declared s.known.entries d s.frame).top
      → AreDeclared d before.frame s.frame.top (declared s.known.entries d s.frame).top
      → HoldsScope (scene p s) s.known.entries before.frame → Declares s d before
  declares_silently s d before placed falls few known holds = record {
    after = before;
    falls = falls;
    holds = declared_names_are_held (bare_scene p) s.frame s.known.entries d placed.settled.end before.frame
        before.frame placed.settled.long placed.settled.scope placed.settled.under few
        (stay_alike s.frame.top before.frame) known holds;
  }

  declares : (s : Site) (d : Declaration) (before : Told) → IsThere p s → DeclarationHolds s.known.entries d
      → declaration_has_words d ≡ true → AllFit p.program (declaration_code s.known.entries d s.frame.top)
      → HoldsScope (scene p s) s.known.entries before.frame → Declares s d before
  declares s (Variables n) before placed right words fit holds =
      let es = s.known.entries in
      let within = variables_within p root es n s.frame placed.free fit in
      let low = within.0 in
      let high = within.1 in
      let few = root.few in
      let fall = declarations_fall (scene p s) s.frame es (Variables n) before placed.settled.long right words
      (record {
        few = omega (arith, high, few);
        reads = λ k first last. root.uses.reads k (omega arith) (omega (arith, last, high));
        writes = λ k first last. root.uses.writes k (omega arith) (omega (arith, last, high));
      })
      (scope_wider (scene p s) placed.settled.end s.frame.top es placed.settled.scope placed.settled.under
      (omega (arith, low, few)))
      (allowed p root s.frame.homes (declaration_code es (Variables n) s.frame.top) fit) holds in
      record { after = fall.after; falls = fall.falls; holds = fall.holds }
  declares s (Constants c) before placed right words fit holds =
      declares_silently s (Constants c) before placed done tt tt holds
  declares s (Channels n) before placed right words fit holds =
      declares_silently s (Channels n) before placed done tt tt holds

  -- the scope of a declaration is left
  declared_left : (s : Site) (d : Declaration) (q : Process) (opened : List OpenLabel) (ps : List pieces.Piece)
      (before : Told) → IsSequential q → IsThere p s
      → PassesTo p (declared s.known.entries d s.frame) (left_by p q (with_declaration d s)) opened ps before
      → PassesTo p s.frame (left_by p (Declared d q) s) opened ps before
  declared_left s d q opened ps before sequential placed inner =
      let es = s.known.entries in
      let a = p.program.around in
      let known = (with_declaration d s).known in
      let final = (inside a q known).entries in
      let more = declared_more es d s.frame in
      let longer = declared_long d es in
      let twice : outermost (length es) (outermost (length known.entries) final) ≡ outermost (length es) final =
      outermost_twice (length es) (length known.entries) final longer in
      let typed = subst AreInTypes twice (typed_left (length es) (left_by p q (with_declaration d s)) inner.typed) in
      let ordered = subst AreOrdered twice
      (left_ordered (length es) (left_by p q (with_declaration d s))
      (scope_ordered (scene_at p (declared es d s.frame).homes) inner.settled.end (left_by p q (with_declaration d s))
      inner.settled.scope)) in
      record {
        after = inner.after;
        passes = inner.passes;
        holds = subst (λ (xs : List Entry). HoldsScope (scene p s) xs inner.after.frame)
            (ap (λ (n : ℕ). outermost n (left_by p q (with_declaration d s))) placed.settled.long ∙ twice)
            (left_scopes_are_held (scene p s) more.0 (left_by p q (with_declaration d s)) inner.after.frame
            (subst (λ (hs : List Home). HoldsScope (scene_at p hs) (left_by p q (with_declaration d s))
            inner.after.frame) more.1 inner.holds));
        settled = processes_leave_scopes_settled (bare_scene p) s.frame a (Declared d q) s.known sequential
            placed.sited.low
            typed ordered placed.settled;
        typed = typed;
      }

  -- A declaration, and the process behind it.
  pub declared_passes : (d : Declaration) (q : Process) → ProcessGoes p q → ProcessGoes p (Declared d q)
  declared_passes d q goes = record {
    passes = λ first s opened before c reached sequential words placed is fit holds.
        let es = s.known.entries in
        let decl = declaration_code es d s.frame.top in
        let si = with_declaration d s in
        let place = AProcess first (Declared d q) in
        let right = places_hold p.program.items (standing p.program) place s.known root.unbroken reached in
        let further = behind (standing p.program) first d q s.known reached in
        let typed = ranges_are_typed p.program.items (standing p.program) (AProcess first q) si.known root.unbroken
        root.literals further in
        let all = and_parts (declaration_has_words d) (process_has_words q) words in
        let b = before_is decl (process_code (surroundings p.program) q si) c is in
        let fits = subst (AllFit p.program) b.pieces fit in
        let first_fits = all_first (FitsIn p.program) decl b.rest.pieces fits in
        let inner = placed_behind p root s d placed right.holds typed first_fits in
        let fall = declares s d before placed right.holds all.0 first_fits holds in
        let run = goes.passes first si opened fall.after b.rest further sequential all.1 inner b.is
        (all_last (FitsIn p.program) decl b.rest.pieces fits) fall.holds in
        let left = declared_left s d q opened b.rest.pieces fall.after sequential placed run in
        subst (λ (ps : List pieces.Piece). PassesTo p s.frame (left_by p (Declared d q) s) opened ps before)
        (sym b.pieces)
        (record {
          after = left.after;
          passes = both {t = Some fall.after} {u = Some left.after} (straight fall.falls) left.passes;
          holds = left.holds;
          settled = left.settled;
          typed = left.typed;
        });
  }

  -- ---- constructs

  -- an action
  pub act_passes : (action : Action) → ConstructGoes p (Act action)
  act_passes action = record {
    passes = λ first line s opened before c reached sequential words placed is fit holds.
        action_passes p root first line s opened before c placed fit holds action reached words sequential is;
  }

  -- a construct
  pub does_passes : (line : ℕ) (c : Construct) → ConstructGoes p c → ProcessGoes p (Does line c)
  does_passes line c goes = record {
    passes = λ first s opened before code reached sequential words placed is fit holds.
        let a = p.program.around in
        let es = s.known.entries in
        let left = (after_construct a line c s.known).entries in
        subst (λ (xs : List Entry). PassesTo p s.frame xs opened code.pieces before)
        (sym (all_outermost (length es) left
        (index_lengths left es (indices_are_kept.constructs a line c s.known sequential placed.sited.low))))
        (goes.passes first line s opened before code reached sequential words placed is fit holds);
  }

  -- ---- components of a SEQ

  -- The components of a SEQ, one after the other.
  pub components_pass : {part : Part} (cs : Components part) (s : Site) (opened : List OpenLabel) (before : Told)
      (c : Code)
      → ((piece : Piece) (m : Known) → StandsAmong p.program.around (Mark mark.Seq) cs s.known piece m
      → Reaches p.program.items (standing p.program) piece m)
      → EachGoes p cs → IsMadeOf (Mark mark.Seq) part → AreSequential (Mark mark.Seq) cs
      → components_have_words cs ≡ true → IsThere p s → AreInTypes s.known.entries
      → components_code (surroundings p.program) cs s ≡ Some c → AllFit p.program c.pieces
      → HoldsScope (scene p s) s.known.entries before.frame
      → PassesTo p s.frame (after_components p.program.around (Mark mark.Seq) cs s.known).entries opened c.pieces before
  components_pass {part} NoComponent s opened before c reach each made sequential words placed typed is fit holds =
      subst (λ (ps : List pieces.Piece). PassesTo p s.frame s.known.entries opened ps before)
      (sym (written_is [] s.label c is)) (same_scope p root s opened before before [] none placed typed holds)
  components_pass (Further cs (Plain q)) s opened before c reach each made sequential words placed typed is fit holds =
      let a = p.program.around in
      let w = surroundings p.program in
      let m = after_components a (Mark mark.Seq) cs s.known in
      let all = and_parts (components_have_words cs) (process_has_words q) words in
      let remain = components_remain a cs s.known made placed.sited.low in
      let here = to_process (standing p.program) (Plain q) m (reach (AComponent (Plain q)) m (inl (refl, refl))) in
      let t = then_is (components_code w cs s) (λ label. component_code w (Plain q) (at_place m label s)) c is in
      let fits = subst (AllFit p.program) t.pieces fit in
      let sm = at_place m t.first.labels s in
      let stays = ranges_stay.processes a q m remain.0 in
      let one = components_pass cs s opened before t.first (λ piece x among. reach piece x (inr among)) each.0 made
      sequential.0 all.0 placed typed t.first_is (all_first (FitsIn p.program) t.first.pieces t.last.pieces fits)
      holds in
      let two = each.1.passes (length m.entries) sm opened one.after t.last here sequential.1 all.1
      (placed_alike p s m t.first.labels placed
      (subst (Rises s.label) t.first_is (components_rise p root cs s)) remain.0
      (record {
        settled = one.settled;
        typed = one.typed;
        alike = remain.1;
        indices = indices_are_kept.components a cs s.known made sequential.0 placed.sited.low;
      })) t.last_is
      (all_last (FitsIn p.program) t.first.pieces t.last.pieces fits) one.holds in
      subst (λ (x : List pieces.Piece × List Entry). PassesTo p s.frame x.1 opened x.0 before)
      (λ i. (sym t.pieces i, sym (left_is (changed_by a.signatures m.entries q) m (inside a q m) stays remain.0) i))
      (record {
        after = two.after;
        passes = both {t = Some one.after} {u = Some two.after} one.passes two.passes;
        holds = two.holds;
        settled = two.settled;
        typed = two.typed;
      })
  components_pass (Further cs (Chosen line e q)) s opened before c reach each made sequential words placed typed is fit
      holds =
      absurd sequential.1
  components_pass (Further cs (Guarded line g q)) s opened before c reach each made sequential words placed typed is fit
      holds =
      absurd sequential.1
