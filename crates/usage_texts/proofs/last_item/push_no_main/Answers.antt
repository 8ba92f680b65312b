use Rattle.usage_texts.proofs.last_item.push_no_main.Goals as goal

pub returns-in-Missing : goal.returns-in-Missing
returns-in-Missing c = rw c.in-Missing.is c.push_phrases.ensures

pub returns-in-Constant : goal.returns-in-Constant
returns-in-Constant c = rw c.in-Constant.is c.push_phrases-in-Constant.ensures

pub returns-in-OtherName : goal.returns-in-OtherName
returns-in-OtherName c = rw c.in-OtherName.is c.push_phrases-in-OtherName.ensures

pub returns-in-NoLink : goal.returns-in-NoLink
returns-in-NoLink c = rw c.in-NoLink.is c.push_phrases-in-NoLink.ensures
