use Rattle.meant_lines.proofs.Pushing as proof
use Rattle.meant_lines.proofs.laws.leaves_and_elements_are_pushed.Goals as goal

pub returns-clause-constants : goal.returns-clause-constants
returns-clause-constants c = proof.constants_push

pub returns-clause-scalars : goal.returns-clause-scalars
returns-clause-scalars c = proof.scalars_push

pub returns-clause-known_words : goal.returns-clause-known_words
returns-clause-known_words c = proof.known_words_push

pub returns-clause-words : goal.returns-clause-words
returns-clause-words c = proof.words_push

pub returns-clause-known_bytes : goal.returns-clause-known_bytes
returns-clause-known_bytes c = proof.known_bytes_push

pub returns-clause-bytes : goal.returns-clause-bytes
returns-clause-bytes c = proof.bytes_push

pub returns-clause-known_items : goal.returns-clause-known_items
returns-clause-known_items c = proof.known_items_push

pub returns-clause-items : goal.returns-clause-items
returns-clause-items c = proof.items_push
