-- The fields of a file in memory, and what they stand for.
use Rattle.std.specs.Prelude.{◌≡◌, ◌≤◌, take, vec_len}
use Rattle.disk_journal.specs.declared.memory_file.MemoryFile.TheInside.{Inside}
use Rattle.disk_journal.specs.Memory.{FileState, IsConsistent}

abbrev pub state : Inside → FileState
state f = record {
  number = f.number;
  seen = take f.size f.bytes.items;
  synced = take f.synced_size f.synced.items;
  written = take f.high f.written.items;
  low = f.low;
  room = vec_len f.bytes;
}

-- the sizes lie within the room, and the state is consistent
pub record IsKept (f : Inside) : Type 0 where
  pub same_synced : vec_len f.synced ≡ vec_len f.bytes
  pub same_written : vec_len f.written ≡ vec_len f.bytes
  pub size_within : f.size ≤ vec_len f.bytes
  pub synced_within : f.synced_size ≤ vec_len f.bytes
  pub high_within : f.high ≤ vec_len f.bytes
  pub consistent : IsConsistent (state f)
