use Rattle.vt100.proofs.FormLists.{screen-sent, screen-forms, rows-sent, rows-forms}
use Rattle.vt100.proofs.laws.lists_are_of_forms.Goals as goal

pub returns : goal.returns
returns c = record { sent = screen-sent; forms = screen-forms; rows_sent = rows-sent; rows = rows-forms }
