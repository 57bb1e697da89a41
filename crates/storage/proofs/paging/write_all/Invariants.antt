-- The invariant: what is left, from here on, gives what all the bytes gave from the start.
use Rattle.std.proofs.Common.{◌≡◌, ◌+◌, ◌-◌, ◌≤◌, length, drop, true}
use Rattle.storage.specs.World.{dev}
use Rattle.storage.specs.Fold.{run, writes}
use Rattle.storage.proofs.paging.write_all.Given as goal

abbrev pub invariant-loop-done : goal.invariant-loop-done
invariant-loop-done g l =
    let k = g.D.Paging in
    record {
      within : l.done ≤ length l.bytes;
      kept : length l.buffer ≡ length l.initial.buffer;
      ready : k.ready l.lent (dev l.store l.chip l.buffer);
      page : l.page ≡ k.page l.store;
      left : writes l.page (k.load l.lent l.page) (k.seal l.lent) (drop l.done l.bytes) (run true (l.offset + l.done) (dev l.store l.chip l.buffer))
          ≡ writes l.page (k.load l.lent l.page) (k.seal l.lent) l.bytes (run true l.offset (dev l.initial.store l.initial.chip l.initial.buffer));
    }

abbrev pub decreases-loop-done : goal.decreases-loop-done
decreases-loop-done g l = length l.bytes - l.done
