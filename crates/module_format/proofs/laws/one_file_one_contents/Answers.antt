use Rattle.module_format.proofs.FileLaws.{one_file, one_contents}
use Rattle.module_format.proofs.laws.one_file_one_contents.Goals as goal

pub returns-clause-contents : goal.returns-clause-contents
returns-clause-contents c = one_contents

pub returns-clause-version : goal.returns-clause-version
returns-clause-version c = λ file v w d e f g. (one_file file v w d e f g).0
