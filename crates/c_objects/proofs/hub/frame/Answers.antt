use Rattle.std.proofs.Common.{sym}
use Rattle.c_objects.proofs.Did.{hub_did}
use Rattle.c_objects.specs.Hubs.{Frames}
use Rattle.c_objects.proofs.hub.frame.Goals as goal

pub returns-in-Hub : goal.returns-in-Hub
returns-in-Hub c =
    hub_did (Frames c.args.client) _ c.in-Hub.hub c.frame.new.self c.frame_code.result c.frame_code.type_inv c.in-Hub.is
    (rw (sym c.from_key.ensures) (record {
      answer = c.frame.result;
      code_is = c.frame_code.ensures;
      frames = c.frame.ensures.frames;
      short = c.frame.ensures.short;
      local = c.frame.ensures.local;
      small = c.frame.ensures.small;
    }))
