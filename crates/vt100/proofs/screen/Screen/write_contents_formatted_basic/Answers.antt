use Rattle.vt100.proofs.screen.Screen.write_contents_formatted_basic.Goals as goal

pub returns-in-Full-clause-state : goal.returns-in-Full-clause-state
returns-in-Full-clause-state g c = rw c.in-Full.is (rw (← c.self.view_is) c.write_all_rows.ensures.state)
