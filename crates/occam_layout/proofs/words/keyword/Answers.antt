use Rattle.std.proofs.Common.{◌∙◌}
use Rattle.occam_layout.specs.Kind.{keywords}
use Rattle.occam_layout.proofs.Spelling.{among_its_length}
use Rattle.occam_layout.proofs.words.keyword.Goals as goal

pub returns-in-2 : goal.returns-in-2
returns-in-2 c = c.keyword_of_two.ensures ∙ among_its_length c.args.text.now 2 keywords c.in-2.is

pub returns-in-3 : goal.returns-in-3
returns-in-3 c = c.keyword_of_three.ensures ∙ among_its_length c.args.text.now 3 keywords c.in-3.is

pub returns-in-4 : goal.returns-in-4
returns-in-4 c = c.keyword_of_four.ensures ∙ among_its_length c.args.text.now 4 keywords c.in-4.is

pub returns-in-5 : goal.returns-in-5
returns-in-5 c = c.keyword_of_five.ensures ∙ among_its_length c.args.text.now 5 keywords c.in-5.is

pub returns-in-7 : goal.returns-in-7
returns-in-7 c = c.keyword_of_seven.ensures ∙ among_its_length c.args.text.now 7 keywords c.in-7.is
