use Rattle.std.proofs.Common.{◌∙◌, sym}
use Rattle.module_format.proofs.laws.one_contents_one_file.Goals as goal

pub returns : goal.returns
returns c = λ version file other d f g. f.spelled ∙ sym g.spelled
