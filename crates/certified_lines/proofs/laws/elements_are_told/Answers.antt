use Rattle.certified_lines.proofs.Elements.{known_words_tell, words_tell, known_bytes_tell, bytes_tell, known_items_tell, items_tell}
use Rattle.certified_lines.proofs.laws.elements_are_told.Goals as goal

pub returns-clause-known_words : goal.returns-clause-known_words
returns-clause-known_words c = known_words_tell

pub returns-clause-words : goal.returns-clause-words
returns-clause-words c = words_tell

pub returns-clause-known_bytes : goal.returns-clause-known_bytes
returns-clause-known_bytes c = known_bytes_tell

pub returns-clause-bytes : goal.returns-clause-bytes
returns-clause-bytes c = bytes_tell

pub returns-clause-known_items : goal.returns-clause-known_items
returns-clause-known_items c = known_items_tell

pub returns-clause-items : goal.returns-clause-items
returns-clause-items c = items_tell
