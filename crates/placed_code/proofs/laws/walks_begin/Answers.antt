use Rattle.placed_code.proofs.OneProcess as proof
use Rattle.placed_code.proofs.laws.walks_begin.Goals as goal

pub returns-clause-words : goal.returns-clause-words
returns-clause-words c = proof.root_has_its_words

pub returns-clause-links : goal.returns-clause-links
returns-clause-links c = proof.root_has_its_links

pub returns-clause-tables : goal.returns-clause-tables
returns-clause-tables c = proof.tables_are_rows

pub returns-clause-begins : goal.returns-clause-begins
returns-clause-begins c = proof.walk_begins
