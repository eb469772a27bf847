-- Causes of stops, from an earlier moment.
use Rattle.std.proofs.Common.{ℕ, ◌≤◌, Err, arith}
use Rattle.cells_base.specs.Causes.{Rose}
use Rattle.cells_edge.specs.declared.sink.Sink.{Ghosts as SinkGhosts}
use Rattle.cells_edge.specs.declared.source.Source.{Ghosts as SourceGhosts}
use Rattle.disk_journal.specs.declared.disk.Disk.{Ghosts as DiskGhosts}
use Rattle.cells_world.specs.declared.fault.ClusterError.{ClusterError}
use Rattle.cells_world.specs.declared.fault.ClusterError.TheVariants.{DiskFailed, Memory as NoRoom, Damaged}
use Rattle.cells_cli.specs.Doing.{EndsSo, HasItsCause, HasLineCause}
use Rattle.cells_cli.specs.declared.up.UpStop.{UpStop}
use Rattle.cells_cli.specs.declared.up.UpStop.TheVariants.{Script as ScriptStop, ReadFault as ReadStop, WriteFault as WriteStop, Memory as MemoryStop, Cluster as ClusterStop}

pub rose_earlier : (before mid now : ℕ) → before ≤ mid → Rose mid now → Rose before now
rose_earlier before mid now later rose = omega (arith, later, rose)

module _ {D : Type 0} (d : DiskGhosts D) (disk mid now : D) (later : d.faults disk ≤ d.faults mid) where
  pub ends_earlier : (error : ClusterError) → EndsSo d mid now error → EndsSo d disk now error
  ends_earlier (DiskFailed file) ends = (rose_earlier (d.faults disk) (d.faults mid) (d.faults now) later ends.0, ends.1)
  ends_earlier NoRoom ends = tt
  ends_earlier (Damaged file fault) ends = absurd ends

module _ {S W D : Type 0} (s : SourceGhosts S) (w : SinkGhosts W) (d : DiskGhosts D) (script script_now : S) (out out_mid out_now : W) (disk mid now : D) (out_later : w.faults out ≤ w.faults out_mid) (disk_later : d.faults disk ≤ d.faults mid) where
  pub line_cause : (stop : UpStop) → HasLineCause w d out_mid out_now mid now (Err stop) → HasItsCause s w (EndsSo d disk now) script script_now out out_now (Err stop)
  line_cause (ScriptStop line) cause = tt
  line_cause ReadStop cause = absurd cause
  line_cause WriteStop cause = rose_earlier (w.faults out) (w.faults out_mid) (w.faults out_now) out_later cause
  line_cause MemoryStop cause = tt
  line_cause (ClusterStop error) cause = ends_earlier d disk mid now disk_later error cause
