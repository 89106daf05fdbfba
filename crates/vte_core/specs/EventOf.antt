-- A borrowed event as the event of the definitions.
use Rattle.std.specs.Prelude.{map}
use Rattle.vte_core.specs.Event as e
use Rattle.vte_core.specs.declared.event.Event.{Event}
use Rattle.vte_core.specs.declared.event.Event.TheVariants as v

-- the event, without its references
abbrev pub event_of : Event → e.Event
event_of (v.Print c) = e.Print c
event_of (v.Execute b) = e.Execute b
event_of (v.Hook ps is ignore f) = e.Hook ps.now is.now ignore f
event_of (v.Put b) = e.Put b
event_of v.Unhook = e.Unhook
event_of (v.OscDispatch ps bell) = e.Osc (map (λ p. p.now) ps.now) bell
event_of (v.CsiDispatch ps is ignore f) = e.Csi ps.now is.now ignore f
event_of (v.EscDispatch is ignore b) = e.Esc is.now ignore b
