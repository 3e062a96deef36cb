-- Commands as requests.
use Rattle.strat_model.specs.declared.commands.Command.{Command}
use Rattle.strat_model.specs.declared.commands.Command.TheVariants as command
use Rattle.strat_model.specs.Request.{Request, Put, Delete, Get, Clone, Scan, Info, OpenCursor, NextPairs, CloseCursor, Stat, DropVersion}

-- what a command asks, wherever its bytes lie
abbrev pub request_of : Command → Request
request_of (command.Put version key value) = Put version key.now value.now
request_of (command.Delete version key) = Delete version key.now
request_of (command.Get version key) = Get version key.now
request_of (command.Clone version) = Clone version
request_of (command.DropVersion version) = DropVersion version
request_of (command.Scan version lo hi limit) = Scan version lo.now hi.now limit
request_of (command.Info version) = Info version
request_of (command.OpenCursor version lo hi) = OpenCursor version lo.now hi.now
request_of (command.NextPairs cursor limit) = NextPairs cursor limit
request_of (command.CloseCursor cursor) = CloseCursor cursor
request_of command.Stat = Stat
