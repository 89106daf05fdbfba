use Rattle.vt100.proofs.EventLemmas.{does_nothing}
use Rattle.vt100.proofs.perform.WrappedScreenPerform.event.Goals as goal

pub returns-in-Hook : goal.returns-in-Hook
returns-in-Hook g c = rw c.in-Hook.is does_nothing

pub returns-in-Put : goal.returns-in-Put
returns-in-Put g c = rw c.in-Put.is does_nothing

pub returns-in-Unhook : goal.returns-in-Unhook
returns-in-Unhook g c = rw c.in-Unhook.is does_nothing
