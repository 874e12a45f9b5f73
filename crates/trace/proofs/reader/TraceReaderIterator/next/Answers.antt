use Rattle.trace.proofs.Feeds.{progress}
use Rattle.trace.proofs.reader.TraceReaderIterator.next.Goals as goal

pub returns-clause-goes : goal.returns-clause-goes
returns-clause-goes c = rw c.reading_at-reading.ensures (progress c.args.self.now)
