-- The standard descriptors.
use Rattle.std.specs.Prelude.{pos, ◌<ℤ◌}
use Rattle.std.specs.declared.io.pipes.PipeReader.{PipeReader}
use Rattle.std.specs.Fd.{pipe_reader_raw_fd}

-- what was opened has a number beyond those of standard input, output and error, which are 0, 1 and 2:
-- since the system gives the lowest number that is free, none of these was free
abbrev pub IsBeyond : PipeReader → Type 0
IsBeyond opened = pos 2 <ℤ pipe_reader_raw_fd opened
