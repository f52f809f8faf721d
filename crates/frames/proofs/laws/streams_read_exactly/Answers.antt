use Rattle.frames.proofs.Composed.{stream_reads}
use Rattle.frames.proofs.Decomposed.{bytes_stream}
use Rattle.frames.proofs.laws.streams_read_exactly.Goals as goal

pub returns : goal.returns
returns c = record { law = λ bytes f h. (λ e. bytes_stream bytes f h e, λ s. stream_reads bytes f s) }
