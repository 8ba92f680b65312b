use Rattle.std.proofs.Common.{◌≡◌, ◌∙◌, subst, ap, sym}
use Rattle.module_format.specs.declared.tables.Version.{Version}
use Rattle.module_format.specs.Contents.{Contents, contents_of}
use Rattle.module_format.specs.Keeping.{Keeps, FitsVersion}
use Rattle.module_builder.specs.Assembled.{Arrangement, arrangement_of, AreInOrder, tables_with, tables_of}
use Rattle.module_builder.specs.Assembled.{IsValid, IsInvalid}
use Rattle.module_builder.proofs.RowLaws.{true_is_not_false}
use Rattle.module_builder.proofs.assembling.file.Goals as goal
use Rattle.module_builder.proofs.assembling.file.Goals.{In_ok-tables}

abbrev arrangement : (c : In_ok-tables) → Arrangement
arrangement c = arrangement_of c.args.layout.now c.in_ok-orders.orders

-- the tables are those of the draft
same : (c : In_ok-tables) → contents_of c.in_ok-tables.tables ≡ tables_of c.args.draft.now (arrangement c)
same c =
    c.in_ok-tables.ensures.contents
    ∙ ap (λ offsets. tables_with c.args.draft.now (arrangement c) offsets) c.requires.places

-- valid tables of the draft are so as a program has them
valid_here : (c : In_ok-tables) → IsValid c.args.draft.now (arrangement c)
    → Keeps (contents_of c.in_ok-tables.tables)
    × FitsVersion c.in_ok-tables.tables.version (contents_of c.in_ok-tables.tables)
valid_here c valid = (
  subst Keeps (sym (same c)) valid.tables,
  subst (λ (t : Contents). FitsVersion c.in_ok-tables.tables.version t) (sym (same c))
      (subst (λ (v : Version). FitsVersion v (tables_of c.args.draft.now (arrangement c)))
      (sym c.in_ok-tables.ensures.version) valid.fits),
)

refused : (c : In_ok-tables) → (IsValid c.args.draft.now (arrangement c) → ⊥) → IsInvalid c.args.draft.now
refused c invalid =
    let orders = c.in_ok-orders.ensures.order in
    record {
      arrangement = arrangement c;
      arranged = record {
        least = c.requires.least;
        orders = subst (λ offsets. AreInOrder c.args.draft.now offsets (arrangement c)) c.requires.places orders;
      };
      within = c.requires.within;
      invalid = invalid;
    }

pub returns-then-not-all_contexts_are_there : goal.returns-then-not-all_contexts_are_there
returns-then-not-all_contexts_are_there c =
    let at = (goal.at.returns-then-not-all_contexts_are_there c).In_ok-tables in
    refused at (λ valid. true_is_not_false (sym (c.if-not-all_contexts_are_there.ensures.1 valid.contexts)))

pub returns-then-not-keeps : goal.returns-then-not-keeps
returns-then-not-keeps c =
    let at = (goal.at.returns-then-not-keeps c).In_ok-tables in
    refused at
    (λ valid. true_is_not_false (sym (c.if-not-keeps.ensures.1 (valid_here at valid))))
