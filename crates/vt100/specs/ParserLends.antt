-- What a parser ends as, where a part of it was lent.
use Rattle.std.specs.Borrow.{Lends, LendsBoth, RattleType, MutBor, Fml}
use Rattle.screen_model.specs.Call.{ScreenView}
use Rattle.vt100.specs.Parsing.{ParserView}
use Rattle.vt100.specs.contracts.parser.Parser.{the_row}
use Rattle.vt100.specs.contracts.screen.Screen.{the_row as screen_row}

module _ (CB : RattleType) (p : MutBor (ParserView CB.Denot)) where
  -- with the screen that was left
  abbrev pub lends_screen : MutBor ScreenView → Fml
  lends_screen r = Lends (the_row CB) screen_row p r (λ w. record (p.now) { screen = w })

  -- with the callbacks that were left
  abbrev pub lends_callbacks : MutBor CB.Denot → Fml
  lends_callbacks r = Lends (the_row CB) CB p r (λ d. record (p.now) { callbacks = d })

  -- with both that were left
  abbrev pub lends_both : MutBor ScreenView × MutBor CB.Denot → Fml
  lends_both r = LendsBoth (the_row CB) screen_row CB p r (λ w d. record (p.now) { screen = w; callbacks = d })
