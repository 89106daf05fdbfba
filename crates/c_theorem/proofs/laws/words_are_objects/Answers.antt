use Rattle.c_theorem.proofs.WordLemmas.{words-are-objects, words-shown}
use Rattle.c_theorem.proofs.laws.words_are_objects.Goals as goal

pub returns : goal.returns
returns c = record { objects = words-are-objects; shown = words-shown c.views_from_c_are_shown.ensures }
