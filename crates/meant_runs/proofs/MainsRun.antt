-- What becomes of main over links is what the meaning reports.
use Rattle.std.proofs.Common.{◌≡◌, ℕ, zero, suc, ◌+◌, ◌<◌, Bool, true, false, List, [], ◌∷◌, length, map}
use Rattle.std.proofs.Common.{Some, None, refl, sym, subst, ap, ◌∙◌, arith}
use Rattle.std.specs.Prelude.{unwrap_or}
use Rattle.std.specs.List.{AllByRecursion}
use Rattle.module_format.specs.Contents.{Contents}
use Rattle.module_format.specs.Order.{IsBytes}
use Rattle.machine_state.specs.declared.link.Link.{Link}
use Rattle.machine_state.specs.declared.link.Link.TheVariants.{Zero, One, Two, Three}
use Rattle.machine_state.specs.Moves.{link_index}
use Rattle.link_runs.specs.ByLink.{ByLink, of_link}
use Rattle.link_runs.specs.FirstInFirstOut.{Supply, RunMoment, beginning}
use Rattle.occam_parser.specs.Blocks.{ProgramItem}
use Rattle.scalar_ranges.specs.Environments.{Environment, item_at}
use Rattle.program_meaning.specs.Links.{Links, Incoming, nothing_came, incoming_at}
use Rattle.program_meaning.specs.Running.{Outcome, Goes, Waits, Stuck}
use Rattle.program_meaning.specs.Meaning.{Ending, Ended, Idle, Report, meaning, reported, reads_of, not_yet}
use Rattle.program_meaning.specs.Meaning.{run_program}
use Rattle.program_meaning.specs.Doing.{doing, over_links}
use Rattle.program_meaning.proofs.DoingIsRunning.{doing_is_running}
use Rattle.code_pieces.specs.LaidModule.{laid_module}
use Rattle.placed_code.specs.Behaves.{Finishes}
use Rattle.placed_code.specs.Closing.{code_of, HasLinks, Closed, ComesToBe, IsOverAs, bytes_left}
use Rattle.placed_code.specs.Closing.{written_at}
use Rattle.placed_code.specs.LaidCode.{LaidCode, laid_code}
use Rattle.placed_code.specs.Points.{Point}
use Rattle.placed_code.specs.StraightPieces.{Footing}
use Rattle.placed_code.proofs.Closes.{closes}
use Rattle.placed_code.proofs.Finishing.{laid_modules_finish}
use Rattle.placed_code.proofs.PointsComeToBe.{later_still, runs_go_on}
use Rattle.placed_code.proofs.RunsBegin.{runs_begin}
use Rattle.placed_code.proofs.Stopping.{stops_come_to_be}
use Rattle.meant_runs.specs.Meant.{EndsAsMeant, IsReportOf, IsEnding, AreBytes, bytes_in, all_bytes_in, in_order}
use Rattle.meant_runs.specs.MainsRun.{HasMeaning, RunsFollowMain}

-- ---- bytes

slices_below : (bytes : List ℕ) → AllByRecursion (λ byte. byte < 256) bytes → IsBytes bytes
slices_below [] are i = omega arith
slices_below (b ∷ bytes) are zero = are.0
slices_below (b ∷ bytes) are (suc i) = slices_below bytes are.1 i

same_bytes : (s : Supply) → bytes_left s ≡ bytes_in s
same_bytes None = refl
same_bytes (Some bytes) = refl

-- ---- links

module _ (m : Contents) (inputs : ByLink Supply) (low : AreBytes inputs) where
  abbrev l : Links
  l = not_yet (all_bytes_in inputs)

  none_read : (link : Link) → of_link (beginning m inputs).read link ≡ length (incoming_at (link_index link) l).read
  none_read Zero = refl
  none_read One = refl
  none_read Two = refl
  none_read Three = refl

  none_written : (link : Link) → of_link (beginning m inputs).written link ≡ written_at (link_index link) l
  none_written Zero = refl
  none_written One = refl
  none_written Two = refl
  none_written Three = refl

  unread : (link : Link) → bytes_in (of_link inputs link) ≡ (incoming_at (link_index link) l).unread
  unread Zero = refl
  unread One = refl
  unread Two = refl
  unread Three = refl

  -- nothing is read and nothing written where a run begins
  has_links : HasLinks l (beginning m inputs)
  has_links = record {
    four_in = refl;
    four_out = refl;
    read = none_read;
    left = λ link. same_bytes (of_link inputs link) ∙ unread link;
    written = none_written;
    are_bytes = λ link. subst IsBytes (unread link) (slices_below (bytes_in (of_link inputs link)) (low link));
  }

-- ---- reports

-- of each of four links as many bytes were read
reads_are : (xs : List Incoming) (r : ByLink ℕ) → length xs ≡ 4
    → ((link : Link) → of_link r link ≡ length (unwrap_or (item_at (link_index link) xs) nothing_came).read)
    → in_order r ≡ map length (map (λ i. i.read) xs)
reads_are [] r four are = absurd (omega (arith, four))
reads_are (a ∷ []) r four are = absurd (omega (arith, four))
reads_are (a ∷ b ∷ []) r four are = absurd (omega (arith, four))
reads_are (a ∷ b ∷ c ∷ []) r four are = absurd (omega (arith, four))
reads_are (a ∷ b ∷ c ∷ d ∷ []) r four are = rw (are Zero, are One, are Two, are Three) refl
reads_are (a ∷ b ∷ c ∷ d ∷ e ∷ xs) r four are = absurd (omega (arith, four))

-- to each of four links this was written
writes_are : (xs : List (List ℕ)) (r : ByLink (List ℕ)) → length xs ≡ 4
    → ((link : Link) → of_link r link ≡ unwrap_or (item_at (link_index link) xs) []) → in_order r ≡ xs
writes_are [] r four are = absurd (omega (arith, four))
writes_are (a ∷ []) r four are = absurd (omega (arith, four))
writes_are (a ∷ b ∷ []) r four are = absurd (omega (arith, four))
writes_are (a ∷ b ∷ c ∷ []) r four are = absurd (omega (arith, four))
writes_are (a ∷ b ∷ c ∷ d ∷ []) r four are = rw (are Zero, are One, are Two, are Three) refl
writes_are (a ∷ b ∷ c ∷ d ∷ e ∷ xs) r four are = absurd (omega (arith, four))

-- what is reported of links is so where a run has these links
report_is : (ending : Ending) (l : Links) (s : RunMoment) → IsEnding ending s.world.counters.is_finished
    → HasLinks l s → IsReportOf (record { ending = ending; read = reads_of l; written = l.written }) s
report_is ending l s ends has = record {
  ending = ends;
  read = reads_are l.incoming s.read has.four_in has.read;
  written = writes_are l.written s.written has.four_out has.written;
}

-- ---- runs

module _ (m : Contents) (labels : ℕ → ℕ) (footing : Footing) (finish : m.finish ≡ length m.code)
    (inputs : ByLink Supply) (writers : ByLink Bool) where
  abbrev c : LaidCode
  c = code_of m labels footing

  abbrev IsFinish : Environment → Point → Type 0
  IsFinish env q = Finishes c q

  -- where a run is over, what is reported is so
  ends_with : (finished : Bool) (ending : Ending) (l : Links) (items : List ProgramItem)
      → IsEnding ending finished
      → meaning items (all_bytes_in inputs) (in_order writers)
      ≡ record { ending = ending; read = reads_of l; written = l.written }
      → ComesToBe m writers (beginning m inputs) (IsOverAs finished m writers l)
      → EndsAsMeant m items inputs writers
  ends_with finished ending l items ends means comes = record {
    turns = 0 + comes.turns;
    last = comes.moment;
    run = runs_go_on m inputs writers 0 comes.turns (beginning m inputs) comes.moment refl comes.comes;
    over = comes.is.over;
    report = subst (λ (r : Report). IsReportOf r comes.moment) (sym means)
        (report_is ending l comes.moment
        (subst (IsEnding ending) (sym comes.is.is_finished) ends) comes.is.links);
  }

  -- by the outcome
  outcome_ends : (items : List ProgramItem) (o : Outcome)
      → run_program items (in_order writers) (not_yet (all_bytes_in inputs)) ≡ o → HasMeaning items
      → Closed m writers c IsFinish o (beginning m inputs) → EndsAsMeant m items inputs writers
  outcome_ends items (Goes env l) is well x =
      ends_with true Ended l items refl (ap reported is)
      (later_still x.turns x.moment x.comes
      (stops_come_to_be.finishes m writers labels footing x.is.point l x.moment finish x.is.ends x.is.at))
  outcome_ends items (Waits l) is well x = ends_with false Idle l items refl (ap reported is) x
  outcome_ends items Stuck is well x =
      absurd (well (all_bytes_in inputs) (in_order writers) (ap (λ o. (reported o).ending) is))

pub runs_follow_main : RunsFollowMain
runs_follow_main ps labels links bytes says items well means main inputs writers low =
    let m = laid_module ps labels links says.arrangement in
    let c = laid_code ps labels says.arrangement.lengths 0 in
    let finish = laid_modules_finish ps labels links bytes says in
    let l = not_yet (all_bytes_in inputs) in
    let at = runs_begin m inputs c.labels c.footing l says.format.keeps well refl (has_links m inputs low) in
    let t = doing main.main.ports main.main.body main.main.names in
    let same = main.main.runs (in_order writers) l
    ∙ doing_is_running (record { ports = main.main.ports; listens = in_order writers }) main.main.body
    main.main.names l in
    outcome_ends m c.labels c.footing finish inputs writers items (over_links (in_order writers) t l) same means
    (closes m writers c.labels c.footing (omega arith) finish (IsFinish m c.labels c.footing finish inputs writers)
    main.behaves l (beginning m inputs) at)
