use Rattle.vte_core.proofs.Quiet.{header_quiet, osc_quiet, swallowed_quiet}
use Rattle.vte_core.proofs.parser.Parser.read_quiet.Goals as goal

pub returns-in-Csi-clause-reads : goal.returns-in-Csi-clause-reads
returns-in-Csi-clause-reads g c = header_quiet c.read.ensures.within c.read.new.self c.in-Csi.is c.read.ensures.header
    c.read.ensures.reads

pub returns-in-OscString-clause-reads : goal.returns-in-OscString-clause-reads
returns-in-OscString-clause-reads g c =
    osc_quiet c.read-in-OscString.ensures.within c.read-in-OscString.new.self c.in-OscString.is
    c.read-in-OscString.ensures.all_data c.read-in-OscString.ensures.reads

pub returns-in-SosPmApcString-clause-reads : goal.returns-in-SosPmApcString-clause-reads
returns-in-SosPmApcString-clause-reads g c = swallowed_quiet c.swallowed_len.ensures.within c.in-SosPmApcString.is
    c.swallowed_len.ensures.swallowed
