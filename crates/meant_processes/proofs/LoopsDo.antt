-- A replicated SEQ: its loop, turn by turn.
use Rattle.std.proofs.Common.{◌≡◌, ℕ, suc, ◌+◌, ◌-◌, ◌<◌, ◌≤◌, ◌^◌, ℤ, pos, ◌+ℤ◌, FitsSigned, true}
use Rattle.std.proofs.Common.{List, [], ◌∷◌, ◌++◌, length, Option, Some, refl, sym, ap, subst, ◌∙◌, arith}
use Rattle.std.specs.Prelude.{int_lt, slice_get}
use Rattle.std.specs.Int.{w32}
use Rattle.std.proofs.lemmas.Int.{ints}
use Rattle.word_arithmetic.specs.Range.{Ends, InRange}
use Rattle.word_arithmetic.specs.Word.{is_word}
use Rattle.word_arithmetic.proofs.WordLaws.{is_word_out}
use Rattle.module_format.specs.declared.limits.TheConstants.{MAX_DATA_WORDS}
use Rattle.machine_state.specs.Memory.{Memory}
use Rattle.occam_parser.specs.declared.tree.ValueType.TheVariants as value_type
use Rattle.occam_parser.specs.Blocks.{Plain, Process}
use Rattle.occam_parser.specs.Words.{process_has_words}
use Rattle.scalar_ranges.specs.declared.scope.ScalarKind.TheVariants as scalar
use Rattle.scalar_ranges.specs.Entries.{Entry, Meaning, Scalar}
use Rattle.scalar_ranges.specs.Environments.{Environment, Held, One}
use Rattle.scalar_ranges.specs.MoveLaws.{shape}
use Rattle.scalar_ranges.specs.Moves.{Known, begin_loop, outermost, widen}
use Rattle.scalar_ranges.proofs.MoveLaws.{as_long, shapes_stay}
use Rattle.scalar_ranges.proofs.Nesting.{long_alike}
use Rattle.program_uses.specs.Changes.{changed_by}
use Rattle.program_uses.specs.Declaring.{add}
use Rattle.program_uses.specs.Indices.{turn_by_turn}
use Rattle.program_meaning.specs.Doing.{Doing, Leaves, doing_component, doing_then, leaves}
use Rattle.program_meaning.specs.GoingWell.{IsTrueIn}
use Rattle.program_meaning.specs.Links.{Links}
use Rattle.program_meaning.specs.RangesWithin.{EntriesWithin}
use Rattle.program_meaning.specs.Running.{Goes, with_index}
use Rattle.program_meaning.specs.Sequential.{IsSequential}
use Rattle.program_meaning.proofs.MovesWithin.{within_left}
use Rattle.program_meaning.proofs.OutcomesGoWell.{outcomes_go_well}
use Rattle.usage_checks.specs.AfterProcesses.{inside}
use Rattle.usage_checks.specs.ItemRules.{BreaksNoRule}
use Rattle.usage_checks.specs.NameRules.{with_entries}
use Rattle.usage_checks.specs.Reaching.{AComponent, Reaches, to_process}
use Rattle.usage_checks.proofs.RangesStay.{Covers, all_but_one, process_stays}
use Rattle.code_pieces.specs.declared.piece.RowEntry.{RowEntry}
use Rattle.code_pieces.specs.Pieces.{Code, LoopBack, Row, counted, points, stores, word_after}
use Rattle.line_pieces.specs.Homes.{Block, Home}
use Rattle.code_generator.specs.Processes.{Site, in_loop, loop_start, process_code}
use Rattle.placed_code.specs.StraightPieces.{Held as Registers, LeadOn, with_pushed}
use Rattle.meant_code.proofs.StraightLines.{loop_start_is}
use Rattle.meant_lines.specs.Carrying.{AreKept, Carries, Ground, IsKeptThere}
use Rattle.meant_lines.specs.Instructions.{with_memory, without_a}
use Rattle.meant_lines.specs.Words.{ChangesWithin, HasFrameWord, Holds, IsInFrame, with_frame_word}
use Rattle.meant_lines.proofs.Carrying.{outer_words_stay}
use Rattle.meant_lines.proofs.Housing.{get_before, get_last}
use Rattle.meant_lines.proofs.Instructions.{constants_are_pushed, then_leads, words_are_stored}
use Rattle.meant_lines.proofs.Shapes.{same_shapes_carry}
use Rattle.meant_lines.proofs.Words.{changes_both, changes_writing, frame_words_read_back}
use Rattle.meant_processes.specs.Lying.{PiecesBehave}
use Rattle.meant_processes.specs.Places.{AllFit, CarriedAt, IsPlaced, Program, ground, standing, surroundings}
use Rattle.meant_processes.proofs.Behaving.{Led, pieces_well, straight_before}
use Rattle.meant_processes.proofs.Carried.{left_below, left_here, loop_opened, scope_left, with_left}
use Rattle.meant_processes.proofs.Indices.{IndicesStay, indices_left, indices_then, shape_outermost}
use Rattle.meant_processes.proofs.Loops.{Turns, counted_turn, loop_behaves}
use Rattle.meant_processes.proofs.LoopWords.{back_is, more_than_one, not_more, turned_last, turned_once}
use Rattle.meant_processes.proofs.Placing.{Left, home_behind, process_true, sited_more}
use Rattle.meant_processes.proofs.Sequences.{ProcessBehaves, indices_here, pieces_left}

-- ---- the words of a loop's block

-- what is in them, where the index in the environment is what it was
pub record BlockHolds (m : Memory) (word : ℕ) (v left : ℤ) : Type 0 where
  pub index : Holds m word v
  pub count : Holds m (word + 1) left

index_words : (g : Ground) (m : Memory) (name : List ℕ) (indices : Ends) (es : List Entry) (env after : Environment)
    (v : ℤ) (word head : ℕ) → slice_get g.homes (length es) ≡ Some (Block word head)
    → AreKept g m (add name (Scalar scalar.Index value_type.Int indices) es) after
    → IndicesStay (shape (add name (Scalar scalar.Index value_type.Int indices) es))
    (record { name = name; held = One v } ∷ env) after
    → BlockHolds m word v (g.turns word)
index_words g m name indices es env [] v word head home kept stay = absurd kept
index_words g m name indices es env (b ∷ bs) v word head home kept stay =
    let there : IsKeptThere g m (Some (Block word head)) (Scalar scalar.Index value_type.Int indices) (One v) =
    subst (λ (held : Held). IsKeptThere g m (Some (Block word head)) (Scalar scalar.Index value_type.Int indices) held)
    (sym stay.0)
    (subst (λ (o : Option Home). IsKeptThere g m o (Scalar scalar.Index value_type.Int indices) b.held) home kept.0) in
    record { index = there.0; count = there.1 }

-- two words that are written from the first one on that is free
written_both : (p : Program) (homes : List Home) (turns : ℕ → ℤ) (top : ℕ) (es : List Entry) (env : Environment)
    (m : Memory) → top + 2 ≤ p.words → IsTrueIn es env → Carries (ground p homes turns) top es env m → (k : Memory)
    → ChangesWithin top p.words m k → Carries (ground p homes turns) top es env k
written_both p homes turns top es env m room holds carries k changes =
    outer_words_stay (ground p homes turns) top top p.words es env m k holds.meets (omega arith) (omega arith) changes
    carries

no_links : Links
no_links = record { incoming = []; written = [] }

-- A loop at a site, whose index is called so and begins at the base, with so many turns, whose body changes these
-- variables.
module _ (p : Program) (none : BreaksNoRule p.items) (q : Process) (s : Site) (turns : ℕ → ℤ)
    (name : List ℕ) (base : ℤ) (count : ℕ) (indices : Ends) (ns : List ℕ) (env : Environment) where
  abbrev pub index : Meaning
  index = Scalar scalar.Index value_type.Int indices

  abbrev pub at_body : Known
  at_body = with_entries (add name index) (begin_loop ns s.known)

  abbrev pub body_site : Site
  body_site = in_loop s (begin_loop ns s.known) name index

  abbrev pub one_turn : ℕ → Environment → Doing
  one_turn k e = leaves (length env) (doing_component p.ports (Plain q) (with_index name base k e))

  -- where a turn with this number begins, and where it ends
  abbrev pub In : ℕ → Environment → Memory → Type 0
  In k e m = CarriedAt p s turns e m × BlockHolds m s.frame.top (base +ℤ pos k) (pos (count - k))
      × IsTrueIn (widen ns s.known.entries) e × IndicesStay (shape s.known.entries) env e

  -- what is known of the loop
  pub record Loop : Type 0 where
    pub reached : Reaches p.items (standing p) (AComponent (Plain q)) at_body
    pub behaves : ProcessBehaves p q
    pub sequential : IsSequential q
    pub words : process_has_words q ≡ true
    pub covers : Covers ns (changed_by p.around.signatures at_body.entries q)
    pub lies : (n : ℕ) → n < count → InRange indices (base +ℤ pos n)
    pub is_index : (n : ℕ) → n < count → is_word (base +ℤ pos n) ≡ true
    pub there : IsPlaced p s env
    pub some : 0 < count
    pub few : count < 2 ^ 31
    pub fits : FitsSigned w32 base
    pub room : s.frame.top + 2 ≤ p.words
    pub most : p.words ≤ MAX_DATA_WORDS

  module _ (x : Loop) where
    wide_alike : shape (widen ns s.known.entries) ≡ shape s.known.entries
    wide_alike = shapes_stay.widening s.known.entries ns

    wide_long : length (widen ns s.known.entries) ≡ length s.known.entries
    wide_long = long_alike (widen ns s.known.entries) s.known.entries wide_alike

    env_long : length env ≡ length s.known.entries
    env_long = as_long env s.known.entries x.there.holds.meets

    top_is : body_site.frame.top ≡ s.frame.top + 2
    unfolding word_after counted
    top_is = let room = x.room in let most = x.most in omega (arith, room, most)

    carried_wide : (e : Environment) (m : Memory) → CarriedAt p s turns e m
        → Carries (ground p s.frame.homes turns) s.frame.top (widen ns s.known.entries) e m
    carried_wide e m x =
        same_shapes_carry (ground p s.frame.homes turns) s.frame.top s.known.entries (widen ns s.known.entries) e m
        (sym wide_alike) x.carries

    carried_back : (e : Environment) (m : Memory)
        → Carries (ground p s.frame.homes turns) s.frame.top (widen ns s.known.entries) e m
        → CarriedAt p s turns e m
    carried_back e m carries = record {
      carries = same_shapes_carry (ground p s.frame.homes turns) s.frame.top (widen ns s.known.entries) s.known.entries
          e m wide_alike carries;
    }

    -- other words from the top on
    carried_stays : (e : Environment) (m k : Memory) → IsTrueIn (widen ns s.known.entries) e
        → ChangesWithin s.frame.top p.words m k → CarriedAt p s turns e m → CarriedAt p s turns e k
    carried_stays e m k holds changes x =
        carried_back e k
        (outer_words_stay (ground p s.frame.homes turns) s.frame.top s.frame.top p.words (widen ns s.known.entries) e m k
        holds.meets (omega arith) (omega arith) changes (carried_wide e m x))

    -- ---- a turn

    inner_placed : (k : ℕ) (e : Environment) → k < count → IsTrueIn (widen ns s.known.entries) e
        → IsPlaced p body_site (with_index name base k e)
    inner_placed k e less holds = record {
      sited = sited_more p s body_site (Block s.frame.top s.label) (record { name = name; meaning = index })
          (widen ns s.known.entries) x.there.sited x.there.long refl refl wide_alike tt tt tt (omega arith);
      long = home_behind s.frame.homes (Block s.frame.top s.label) ∙ ap suc (x.there.long ∙ sym wide_long);
      holds = record {
        meets = (refl, x.lies k less, holds.meets);
        typed = (is_word_out (base +ℤ pos k) (x.is_index k less), holds.typed);
      };
    }

    -- the environment that a turn leaves
    true_again : (e after : Environment) → IsTrueIn (widen ns s.known.entries) e
        → IsTrueIn (outermost (length at_body.entries) (inside p.around q at_body).entries) after
        → IsTrueIn (widen ns s.known.entries) (outermost (length env) after)
    true_again e after holds ends =
        let whole = outermost (length at_body.entries) (inside p.around q at_body).entries in
        let cut : outermost (length env) at_body.entries ≡ widen ns s.known.entries =
        all_but_one (length env) (record { name = name; meaning = index }) (widen ns s.known.entries)
        (wide_long ∙ sym env_long) in
        let stays = process_stays p.around ns q at_body x.covers (omega arith) in
        outcomes_go_well.looping ns s.known.entries (λ n. outermost (length env) whole)
        (λ n a l. Goes (outermost (length env) after) l) 1
        (λ n less. subst (EntriesWithin ns (outermost (length env) whole)) cut
        (within_left ns (length env) whole at_body.entries stays.within))
        (λ n less a l known. outcomes_go_well.leaving whole (length env) (Goes after no_links) ends) e no_links holds

    turn_left : (k : ℕ) (e after : Environment) (m start : Memory) → k < count → In k e start
        → Left p body_site (with_left s.frame.top (pos (count - k)) turns) (with_index name base k e) after m
        → IsTrueIn (outermost (length at_body.entries) (inside p.around q at_body).entries) after
        → In k (outermost (length env) after) m
    turn_left k e after m start less begins left ends =
        let homes = s.frame.homes in
        let there = s.frame.homes ++ Block s.frame.top s.label ∷ [] in
        let left_turns = with_left s.frame.top (pos (count - k)) turns in
        let long = x.there.long in
        let cut : outermost (length env) at_body.entries ≡ widen ns s.known.entries =
        all_but_one (length env) (record { name = name; meaning = index }) (widen ns s.known.entries)
        (wide_long ∙ sym env_long) in
        let e_long = as_long e (widen ns s.known.entries) begins.2.meets ∙ wide_long ∙ sym env_long in
        let outer = carried_wide e start begins.0 in
        let carried = scope_left p there homes left_turns turns m (length env) s.frame.top body_site.frame.top
        (widen ns s.known.entries) at_body.entries after cut
        (λ i low. sym (get_before homes (Block s.frame.top s.label) i (omega (arith, low, long, wide_long))))
        (λ w low. sym (left_below s.frame.top (pos (count - k)) turns w low)) outer.rise outer.room outer.counted
        left.0.carries in
        let block = index_words (ground p there left_turns) m name indices (widen ns s.known.entries) e after
        (base +ℤ pos k) s.frame.top s.label
        (get_last homes (Block s.frame.top s.label) (length (widen ns s.known.entries)) (long ∙ sym wide_long))
        left.0.carries.kept left.1 in
        let stays = indices_left (length env) (shape at_body.entries) (with_index name base k e) after left.1 in
        let same : IndicesStay (shape s.known.entries) e (outermost (length env) after) =
        subst (λ old. IndicesStay (shape s.known.entries) old (outermost (length env) after))
        (all_but_one (length env) (record { name = name; held = One (base +ℤ pos k) }) e e_long)
        (subst (λ fs. IndicesStay fs (outermost (length env) (with_index name base k e)) (outermost (length env) after))
        (sym (shape_outermost (length env) at_body.entries) ∙ ap shape cut ∙ wide_alike) stays) in (
          carried_back (outermost (length env) after) m carried,
          record {
            index = block.index;
            count = subst (Holds m (s.frame.top + 1)) (left_here s.frame.top (pos (count - k)) turns) block.count;
          },
          true_again e after begins.2 ends,
          indices_then (shape s.known.entries) env e (outermost (length env) after) begins.3 same,
        )

    turn_behaves : (k : ℕ) (e : Environment) (body : Code) → k < count
        → process_code (surroundings p) q body_site ≡ Some body → AllFit p body.pieces
        → PiecesBehave p.code (In k e) body.pieces (In k) (one_turn k e)
    turn_behaves k e body less is fit = record {
      behaves = λ at_row at to h lie inside_code begins.
          let left_turns = with_left s.frame.top (pos (count - k)) turns in
          let inner = with_index name base k e in
          let holds = begins.2 in
          let placed = inner_placed k e less holds in
          let opened = loop_opened p s.frame.homes turns s.frame.top s.label (widen ns s.known.entries) e name indices
          (base +ℤ pos k) (pos (count - k)) h.memory holds.meets (x.there.long ∙ sym wide_long) x.room begins.1.index
          begins.1.count (carried_wide e h.memory begins.0) in
          let here = to_process (standing p) (Plain q) at_body x.reached in
          let run = x.behaves.behaves (length at_body.entries) body_site left_turns inner body here x.sequential
          x.words placed is fit in
          let known = process_true p (length at_body.entries) q body_site inner none here x.sequential x.words
          placed in
          (pieces_left p.code (length env) (λ after m came. turn_left k e after m h.memory less begins came.0 came.1)
          (pieces_well p.code (IsTrueIn (outermost (length at_body.entries) (inside p.around q at_body).entries)) run
          known)).behaves at_row at to h lie inside_code
          (record {
            carries = subst (λ top. Carries (ground p body_site.frame.homes left_turns) top at_body.entries inner h.memory)
                (sym top_is) opened;
          });
    }

    -- ---- the end of a turn

    first_few : IsInFrame (s.frame.top + 1)
    first_few = let room = x.room in let most = x.most in omega (arith, room, most)

    has_words : (e : Environment) (m : Memory) → CarriedAt p s turns e m → (word : ℕ) → word < s.frame.top + 2
        → HasFrameWord m word
    has_words e m carries word low =
        let inside = carries.carries.frame.inside in let room = x.room in omega (arith, inside, room, low)

    turns_end : Turns p.code s.label s.frame.top count In In (Left p s turns env)
    turns_end = record {
      more_left = λ k e m less out.
          back_is s.frame.top (count - k) (base +ℤ pos k) m first_few out.1.index out.1.count
          ∙ more_than_one (count - k) (omega (arith, less));
      again = λ k e m less out. again k e m less out;
      last = λ k e m last out.
          back_is s.frame.top (count - k) (base +ℤ pos k) m first_few out.1.index out.1.count
          ∙ ap (λ n. int_lt (pos 1) (pos n)) (one_left k last) ∙ not_more;
      behind = λ k e m last out. behind k e m last out;
    }
      where
        one_left : (k : ℕ) → suc k ≡ count → count - k ≡ 1
        one_left k last = omega (arith, last)

        few_left : (k : ℕ) → count - k < 2 ^ 31
        few_left k = let few = x.few in omega (arith, few)

        next_value : (k : ℕ) → (base +ℤ pos k) +ℤ pos 1 ≡ base +ℤ pos (suc k)
        next_value k = omega (arith, ints)

        again : (k : ℕ) (e : Environment) (m : Memory) → suc k < count → In k e m
            → In (suc k) e (counted_turn s.frame.top m)
        again k e m less out =
            let v = base +ℤ pos k in
            let top = s.frame.top in
            let first = with_frame_word (top + 1) (pos ((count - k) - 1)) m in
            let second = with_frame_word top (v +ℤ pos 1) first in
            let fits = is_word_out v (x.is_index k (omega (arith, less))) in
            let next_fits : FitsSigned w32 (v +ℤ pos 1) =
            subst (FitsSigned w32) (sym (next_value k)) (is_word_out (base +ℤ pos (suc k)) (x.is_index (suc k) less)) in
            let is = turned_once top (count - k) v m first_few out.1.index out.1.count (omega (arith, less)) (few_left k)
            fits next_fits in
            let room = x.room in
            let low = few_left k in
            let one : ChangesWithin top p.words m first =
            changes_writing top p.words (top + 1) m (pos ((count - k) - 1)) (omega arith) (omega (arith, room)) in
            let both = changes_both one
            (changes_writing top p.words top first (v +ℤ pos 1) (omega arith) (omega (arith, room))) in
            let size = one.size in
            let has_first = has_words e m out.0 (top + 1) (omega arith) in
            let has_second = has_words e m out.0 top (omega arith) in
            let back = frame_words_read_back.back m (top + 1) (pos ((count - k) - 1)) has_first
            (omega (arith, ints, low)) in
            let count_there : Holds second (top + 1) (pos ((count - k) - 1)) =
            frame_words_read_back.others first top (top + 1) (v +ℤ pos 1) (λ same. omega (arith, same)) ∙ back in
            let index_there : Holds second top (v +ℤ pos 1) =
            frame_words_read_back.back first top (v +ℤ pos 1) (omega (arith, has_second, size)) next_fits in
            let less_one : (count - k) - 1 ≡ count - suc k = omega arith in
            subst (In (suc k) e) (sym is) (
              carried_stays e m second out.2 both out.0,
              record {
                index = subst (Holds second top) (next_value k) index_there;
                count = subst (λ n. Holds second (top + 1) (pos n)) less_one count_there;
              },
              out.2,
              out.3,
            )

        behind : (k : ℕ) (e : Environment) (m : Memory) → suc k ≡ count → In k e m
            → Left p s turns env e (counted_turn s.frame.top m)
        behind k e m last out =
            let top = s.frame.top in
            let is = turned_last top (count - k) (base +ℤ pos k) m first_few out.1.index out.1.count (one_left k last) in
            let room = x.room in
            subst (Left p s turns env e) (sym is) (
              carried_stays e m (with_frame_word (top + 1) (pos 0) m) out.2
                  (changes_writing top p.words (top + 1) m (pos 0) (omega arith) (omega (arith, room))) out.0,
              out.3,
            )

    -- ---- before the head

    next_word : word_after s.frame.top 1 ≡ s.frame.top + 1
    unfolding word_after counted
    next_word = let few = first_few in omega (arith, few)

    begins_turns : (h : Registers) → CarriedAt p s turns env h.memory
        → Led p.code (loop_start s.frame.top base (pos count)) (In 0 env) h
    begins_turns h carries =
        let top = s.frame.top in
        let w = p.code.footing in
        let room = x.room in
        let few = x.few in
        let inside = carries.carries.frame.workspace in
        let first = with_pushed base h in
        let second = with_memory (with_frame_word top base h.memory) (without_a first) in
        let third = with_pushed (pos count) second in
        let fourth = with_memory (with_frame_word (top + 1) (pos count) second.memory) (without_a third) in
        let after_is : word_after top 1 ≡ top + 1 = next_word in
        let m = h.memory in
        let one : ChangesWithin top p.words m second.memory =
        changes_writing top p.words top m base (omega arith) (omega (arith, room)) in
        let both = changes_both one
        (changes_writing top p.words (top + 1) second.memory (pos count) (omega arith) (omega (arith, room))) in
        let size = one.size in
        let wide_true = outcomes_go_well.beginning ns s.known.entries env x.there.holds in
        let has_first = has_words env m carries top (omega arith) in
        let has_second = has_words env m carries (top + 1) (omega arith) in
        let index_there : Holds fourth.memory top base =
        frame_words_read_back.others second.memory (top + 1) top (pos count) (λ same. omega (arith, same))
        ∙ frame_words_read_back.back m top base has_first x.fits in
        let count_there : Holds fourth.memory (top + 1) (pos count) =
        frame_words_read_back.back second.memory (top + 1) (pos count) (omega (arith, has_second, size))
        (omega (arith, ints, few)) in
        let at_first : base +ℤ pos 0 ≡ base = omega (arith, ints) in
        let all_left : count ≡ count - 0 = omega arith in
        record {
          after = fourth;
          leads = then_leads (constants_are_pushed w base h)
              (then_leads (words_are_stored w top first inside (omega (arith, first_few)))
              (then_leads (constants_are_pushed w (pos count) second)
              (subst (λ (n : ℕ). LeadOn w (stores n ∷ []) third fourth) (sym after_is)
              (words_are_stored w (top + 1) third inside first_few))));
          holds = (
            carried_stays env m fourth.memory wide_true both carries,
            record {
              index = subst (Holds fourth.memory top) (sym at_first) index_there;
              count = subst (λ n. Holds fourth.memory (top + 1) (pos n)) all_left count_there;
            },
            wide_true,
            indices_here s env x.there,
          );
        }

    pub loop_does : (body : Code) (heads behinds : List RowEntry)
        → process_code (surroundings p) q body_site ≡ Some body → AllFit p body.pieces
        → IsInFrame p.code.footing.depth
        → PiecesBehave p.code (CarriedAt p s turns env)
        (loop_start s.frame.top base (pos count)
        ++ (Row s.label heads ∷ (body.pieces ++ points s.frame.top ∷ LoopBack s.label (s.label + 1)
        ∷ Row (s.label + 1) behinds ∷ []))) (Left p s turns env)
        (turn_by_turn (λ k t. doing_then t (one_turn k)) count (Leaves env))
    loop_does body heads behinds is fit footing =
        straight_before p.code (loop_start_is s.frame.top base (pos count)) begins_turns
        (loop_behaves p.code s.label s.frame.top count In In (Left p s turns env) one_turn body.pieces env heads behinds
        footing (let few = first_few in omega (arith, few)) turns_end x.some
        (λ k e less. turn_behaves k e body less is fit))
