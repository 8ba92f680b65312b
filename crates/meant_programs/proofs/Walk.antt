-- The body of main is found item by item, with what holds of the names before it, whatever that is: it has to go on
-- over a constant and over a procedure.
use Rattle.std.proofs.Common.{◌≡◌, ℕ, Bool, true, List, [], ◌∷◌, length, Option}
use Rattle.std.proofs.Common.{Some, None, inl, inr, refl, sym, ap, subst, ◌∙◌, IsSomeAnd}
use Rattle.std.proofs.lemmas.Bool.{and_parts}
use Rattle.std.specs.List.{list_all}
use Rattle.occam_parser.specs.Lines as lines
use Rattle.occam_parser.specs.Blocks.{Procedure, ProgramItem, GlobalConstant, GlobalProcedure}
use Rattle.occam_parser.specs.Words.{declaration_has_words, formal_has_words, item_has_words, items_have_words}
use Rattle.occam_parser.specs.Words.{process_has_words}
use Rattle.scalar_ranges.specs.Entries as entries
use Rattle.scalar_ranges.specs.Entries.{Entry}
use Rattle.scalar_ranges.specs.Environments.{Nothing, Environment}
use Rattle.scalar_ranges.specs.Moves.{Known}
use Rattle.program_uses.specs.Declaring.{add, add_declaration}
use Rattle.program_meaning.specs.GoingWell.{IsTrueIn}
use Rattle.program_meaning.specs.Links.{Links}
use Rattle.program_meaning.specs.Meaning.{in_main, declare_item, run_items}
use Rattle.program_meaning.specs.Running.{or_stuck}
use Rattle.program_meaning.specs.Storing.{bind, declare}
use Rattle.program_meaning.specs.Sequential.{IsSequentialProgram}
use Rattle.usage_checks.specs.BrokenInTurn.{BreaksInTurn}
use Rattle.usage_checks.specs.Holding.{DeclarationHolds}
use Rattle.usage_checks.specs.ItemRules.{Outside, outermost, around_in, after_weighing, weighed, after_item, BreaksItem}
use Rattle.usage_checks.specs.ItemRules.{BreaksNoRule, after_procedure, after_walk}
use Rattle.usage_checks.specs.MainRules.{is_main, is_main_name, are_links}
use Rattle.usage_checks.specs.Reaching.{Comes}
use Rattle.usage_checks.specs.Sizes.{Measured, measures_of_item}
use Rattle.usage_checks.proofs.PlacesHold.{Unbroken, items_hold}
use Rattle.code_pieces.specs.Pieces.{Code}
use Rattle.line_pieces.specs.Homes.{Nowhere}
use Rattle.line_pieces.specs.Declarations.{Frame, declared, with_home}
use Rattle.code_generator.specs.Calls.{Callee}
use Rattle.code_generator.specs.Programs.{framed, callable, code_of, items_code, no_frame}
use Rattle.meant_programs.specs.Mains.{FoundProcedure}
use Rattle.meant_programs.proofs.Globals.{Before, weighed_before, item_after, procedure_leaves, last_of}
use Rattle.meant_programs.proofs.Globals.{last_is_main}

-- ---- items

-- what is known is no other once an item is weighed
weighing_knows : (x : Option ℕ) (ms : List Measured) (o : Outside) → (after_weighing x ms o).known ≡ o.known
weighing_knows (Some line) ms o = refl
weighing_knows None ms o = refl

weighed_knows : (item : ProgramItem) (o : Outside) → (weighed item o).known ≡ o.known
weighed_knows item o = weighing_knows o.uncounted (measures_of_item o.signatures o.known.entries item) o

-- what is there is this
some_is : {A : Type 0} (x y : A) → Some x ≡ Some y → x ≡ y
some_is x y same = cc same

some_then : {A : Type 0} (o : Option A) (P Q : A → Type 0) → IsSomeAnd o P
    → ((x : A) → o ≡ Some x → P x → Q x) → IsSomeAnd o Q
some_then None P Q h k = h
some_then (Some x) P Q h k = k x refl h

-- where what is known is the same, a name more has the same home
framed_alike : (item : ProgramItem) (o before : Outside) (f : Frame) → o.known ≡ before.known
    → framed item o f ≡ framed item before f
framed_alike (GlobalConstant c) o before f same = ap (λ (k : Known). declared k.entries (lines.Constants c) f) same
framed_alike (GlobalProcedure p) o before f same = refl

further_sequential : (item next : ProgramItem) (rest : List ProgramItem) → IsSequentialProgram (item ∷ next ∷ rest)
    → IsSequentialProgram (next ∷ rest)
further_sequential (GlobalConstant c) next rest sequential = sequential
further_sequential (GlobalProcedure p) next rest sequential = sequential

-- What holds in a frame of what is known there and of what names hold, and goes on to hold.
pub record GoesOn (Holds : Frame → List Entry → Environment → Type 0) : Type 0 where
  pub constants : (f : Frame) (es : List Entry) (env inner : Environment) (c : lines.Constant) → IsTrueIn es env
      → DeclarationHolds es (lines.Constants c) → declaration_has_words (lines.Constants c) ≡ true
      → declare (lines.Constants c) env ≡ Some inner → Holds f es env
      → Holds (declared es (lines.Constants c) f) (add_declaration (lines.Constants c) es) inner
  pub procedures : (f : Frame) (es : List Entry) (env : Environment) (name : List ℕ) (n : ℕ) → IsTrueIn es env
      → Holds f es env → Holds (with_home Nowhere f) (add name (entries.Procedure n) es) (bind name Nothing env)

-- ---- main

module _ (items : List ProgramItem) (none : BreaksNoRule items) (Holds : Frame → List Entry → Environment → Type 0)
    (on : GoesOn Holds) where
  -- what is before an item, and what follows
  pub record Stands (before : Outside) (item : ProgramItem) (rest : List ProgramItem) (f : Frame) (env : Environment)
      : Type 0 where
    pub unbroken : Unbroken (BreaksInTurn after_item BreaksItem (item ∷ rest) before)
    pub comes : (o : Outside) (x : ProgramItem) → Comes o x (item ∷ rest) before → Comes o x items outermost
    pub main : is_main (last_of item rest) ≡ true
    pub sequential : IsSequentialProgram (item ∷ rest)
    pub has_words : items_have_words (item ∷ rest) ≡ true
    pub truth : Before before env
    pub holds : Holds f before.known.entries env

  -- main, found from here on
  pub record FoundFrom (item : ProgramItem) (rest : List ProgramItem) (env : Environment) (code : Code) : Type 0 where
    pub main : FoundProcedure items code
    pub last : last_of item rest ≡ GlobalProcedure main.procedure
    pub runs : (listens : List Bool) (l : Links)
        → run_items listens item rest env l ≡ in_main listens main.procedure main.names l
    pub truth : Before main.outside main.names
    pub holds : Holds main.frame main.outside.known.entries main.names

  last_found_here : (before : Outside) (p : Procedure) (env : Environment) (cs : List Callee) (f : Frame) (code : Code)
      → Stands before (GlobalProcedure p) [] f env → items_code (GlobalProcedure p) [] cs before f ≡ Some code
      → FoundFrom (GlobalProcedure p) [] env code
  last_found_here before p env cs f code stands is =
      let item = GlobalProcedure p in
      let o = weighed item before in
      let named = and_parts (is_main_name p.head.name) (are_links p.head.formals) stands.main in
      record {
        main = record {
          outside = o;
          procedure = p;
          callees = cs;
          frame = f;
          names = env;
          comes = stands.comes o item (inl (refl, refl));
          is = is;
          named = named.0;
          links = named.1;
          sequential = stands.sequential;
          has_words = (and_parts (list_all formal_has_words p.head.formals) (process_has_words p.body)
              (and_parts (item_has_words item) (list_all item_has_words []) stands.has_words).0).1;
        };
        last = refl;
        runs = λ listens l. refl;
        truth = weighed_before item before env (λ x y. stands.unbroken x (inl (inl y))) stands.truth;
        holds = subst (λ (k : Known). Holds f k.entries env) (sym (weighed_knows item before)) stands.holds;
      }

  -- what holds after an item
  after_holds : (item : ProgramItem) (o : Outside) (f : Frame) (env inner : Environment)
      → Comes o item items outermost → item_has_words item ≡ true → Before o env
      → declare_item item env ≡ Some inner → Holds f o.known.entries env
      → Holds (framed item o f) (after_walk item o).known.entries inner
  after_holds (GlobalConstant c) o f env inner comes has_words truth declares holds =
      on.constants f o.known.entries env inner c truth.holds (items_hold items o (GlobalConstant c) none comes).holds
      has_words declares holds
  after_holds (GlobalProcedure p) o f env inner comes has_words truth declares holds =
      let n = length o.signatures in
      let name = p.head.name in
      subst (λ (i : Environment). Holds (with_home Nowhere f) (add name (entries.Procedure n)
      (after_procedure (around_in o) p o.known).entries) i) (some_is (bind name Nothing env) inner declares)
      (subst (λ (es : List Entry). Holds (with_home Nowhere f) (add name (entries.Procedure n) es)
      (bind name Nothing env)) (sym (procedure_leaves o p env truth))
      (on.procedures f o.known.entries env name n truth.holds holds))

  -- one item further
  stands_next : (before : Outside) (item next : ProgramItem) (rest : List ProgramItem) (f : Frame)
      (env inner : Environment) → Stands before item (next ∷ rest) f env → declare_item item env ≡ Some inner
      → Before (after_item item before) inner
      → Stands (after_item item before) next rest (framed item before f) inner
  stands_next before item next rest f env inner stands declares truth =
      let o = weighed item before in
      let both = and_parts (item_has_words item) (list_all item_has_words (next ∷ rest)) stands.has_words in
      record {
        unbroken = λ x y. stands.unbroken x (inr y);
        comes = λ o x later. stands.comes o x (inr later);
        main = stands.main;
        sequential = further_sequential item next rest stands.sequential;
        has_words = both.1;
        truth = truth;
        holds = subst (λ (g : Frame). Holds g (after_item item before).known.entries inner)
            (framed_alike item o before f (weighed_knows item before))
            (after_holds item o f env inner (stands.comes o item (inl (refl, refl))) both.0
            (weighed_before item before env (λ x y. stands.unbroken x (inl (inl y))) stands.truth) declares
            (subst (λ (k : Known). Holds f k.entries env) (sym (weighed_knows item before)) stands.holds));
      }

  found_next : (item next : ProgramItem) (rest : List ProgramItem) (env : Environment)
      (code : Code) (o : Option Environment) → declare_item item env ≡ o
      → IsSomeAnd o (λ inner. FoundFrom next rest inner code) → FoundFrom item (next ∷ rest) env code
  found_next item next rest env code None is found = absurd found
  found_next item next rest env code (Some inner) is found = record {
    main = found.main;
    last = found.last;
    runs = λ listens l. ap (λ x. or_stuck x (λ i. run_items listens next rest i l)) is ∙ found.runs listens l;
    truth = found.truth;
    holds = found.holds;
  }

  find : (before : Outside) (item : ProgramItem) (rest : List ProgramItem) (env : Environment) (cs : List Callee)
      (f : Frame) (code : Code) → Stands before item rest f env → items_code item rest cs before f ≡ Some code
      → FoundFrom item rest env code
  find before (GlobalConstant c) [] env cs f code stands is = absurd stands.sequential
  find before (GlobalProcedure p) [] env cs f code stands is = last_found_here before p env cs f code stands is
  find before item (next ∷ rest) env cs f code stands is =
      let o = weighed item before in
      let both = and_parts (item_has_words item) (list_all item_has_words (next ∷ rest)) stands.has_words in
      let truth = weighed_before item before env (λ x y. stands.unbroken x (inl (inl y))) stands.truth in
      found_next item next rest env code (declare_item item env) refl
      (some_then (declare_item item env) (Before (after_item item before))
      (λ inner. FoundFrom next rest inner code)
      (item_after item items o env none (stands.comes o item (inl (refl, refl))) both.0 truth)
      (λ inner declares after.
      find (after_item item before) next rest inner (callable item (length f.homes) cs) (framed item before f) code
      (stands_next before item next rest f env inner stands declares after) is))

-- Main of a sequential program that breaks no rule is found from its first item on, if this holds before that.
pub find_main : (item : ProgramItem) (rest : List ProgramItem) (none : BreaksNoRule (item ∷ rest))
    (Holds : Frame → List Entry → Environment → Type 0) (on : GoesOn Holds) (code : Code)
    → IsSequentialProgram (item ∷ rest) → items_have_words (item ∷ rest) ≡ true → code_of (item ∷ rest) ≡ Some code
    → Holds no_frame [] [] → FoundFrom (item ∷ rest) none Holds on item rest [] code
find_main item rest none Holds on code sequential has_words is holds =
    find (item ∷ rest) none Holds on outermost item rest [] [] no_frame code (record {
      unbroken = λ f x. none f (inl x);
      comes = λ o x h. h;
      main = last_is_main item rest none;
      sequential = sequential;
      has_words = has_words;
      truth = record { holds = record { meets = tt; typed = tt }; global = tt; blocks = refl; counted = refl };
      holds = holds;
    }) is
