-- What a command does: it reads a script to its end and writes the answer to it, or says why not.
use Rattle.std.specs.Prelude.{◌≡◌, ◌≢◌, ℕ, ◌+◌, List, Option, Some, Result, Err, IfErr, OnOk}
use Rattle.std.specs.Io.KnownBytes.{Appends, IsAtEnd}
use Rattle.mb_script.specs.declared.transfer.TheConstants.{MAX_SCRIPT_LEN}
use Rattle.mb_script.specs.Devices.{AppendsFront, ConsumesCount, ConsumesUpTo, Had, one_more}

-- a command: its answers, the faults of scripts, and its names for the faults that all commands share
pub record Command (F : Type 0) : Type 1 where
  -- the command's names for the faults that all commands share
  pub too_long : F
  pub no_memory : F
  pub read_fault : F
  pub write_fault : F
  -- the bytes are a script without fault, and the text is its answer
  pub IsAnswer : List ℕ → List ℕ → Type 0
  -- the first fault of the bytes, if they have one
  pub fault_of : List ℕ → Option F

-- what contracts say of a device: its bytes, if they are known, and how many failures it has counted
pub record IoModel (D : Type 0) : Type 0 where
  -- the bytes that a reader has left, or that a writer holds
  pub bytes : D → Option (List ℕ)
  -- how many reads or writes failed, modulo 2^64
  pub failures : D → ℕ

-- the model of a device with these bytes and this count of failures
abbrev pub meter : {D : Type 0} → (D → Option (List ℕ)) → (D → ℕ) → IoModel D
meter bytes failures = record { bytes = bytes; failures = failures }

-- a fault that lies in the script, and not in memory or a device
abbrev pub LiesIn : {F : Type 0} → Command F → F → Type 0
LiesIn command e = (e ≢ command.no_memory) × (e ≢ command.read_fault) × (e ≢ command.write_fault)

-- what one call of a command did: its result, its reader and writer before it, and those after it (reader', writer').
-- If the reader's bytes are not known, what is said of them holds of some bytes
pub record IsCommandIo {F X R W : Type 0} (command : Command F) (source : IoModel R) (sink : IoModel W)
    (reader reader' : R) (writer writer' : W) (result : Result X F) : Type 0 where
  -- if the call did what was asked, the reader had a script, and the answer to it was written and nothing else
  pub answered : OnOk result ((bytes : List ℕ) × (text : List ℕ) × Had (source.bytes reader) bytes
      × command.IsAnswer bytes text × Appends (sink.bytes writer) (sink.bytes writer') text)
  -- a fault of the script is the first fault of what the reader had
  pub fault : IfErr result (λ e. LiesIn command e →
      (bytes : List ℕ) × Had (source.bytes reader) bytes × (command.fault_of bytes ≡ Some e))
  -- a fault of a device comes exactly if the device failed in this call, and it failed once
  pub read_failed : result ≡ Err command.read_fault → source.failures reader' ≡ one_more (source.failures reader)
  pub read_worked : result ≢ Err command.read_fault → source.failures reader' ≡ source.failures reader
  pub write_failed : result ≡ Err command.write_fault → sink.failures writer' ≡ one_more (sink.failures writer)
  pub write_worked : result ≢ Err command.write_fault → sink.failures writer' ≡ sink.failures writer
  -- after a failed write a prefix of the text was written, after any other fault nothing was
  pub front : result ≡ Err command.write_fault →
      (bytes : List ℕ) × (text : List ℕ) × Had (source.bytes reader) bytes × command.IsAnswer bytes text
      × AppendsFront (sink.bytes writer) (sink.bytes writer') text
  pub untouched : IfErr result (λ e. e ≢ command.write_fault → writer' ≡ writer)
  -- All was read, unless the script is too long, memory ran out or a read failed. Of a script that is too long just one
  -- byte past the limit was read, and never more. Before a failed read no more than the limit was read.
  pub whole : result ≢ Err command.too_long → result ≢ Err command.no_memory → result ≢ Err command.read_fault →
      IsAtEnd (source.bytes reader')
  pub too_long : result ≡ Err command.too_long →
      ConsumesCount (MAX_SCRIPT_LEN + 1) (source.bytes reader) (source.bytes reader')
  pub stopped : result ≡ Err command.read_fault →
      ConsumesUpTo MAX_SCRIPT_LEN (source.bytes reader) (source.bytes reader')
  pub bound : ConsumesUpTo (MAX_SCRIPT_LEN + 1) (source.bytes reader) (source.bytes reader')

-- the faults that commands share differ from one another
pub record AreApart {F : Type 0} (command : Command F) : Type 0 where
  pub long_memory : command.too_long ≢ command.no_memory
  pub long_read : command.too_long ≢ command.read_fault
  pub long_write : command.too_long ≢ command.write_fault
  pub memory_read : command.no_memory ≢ command.read_fault
  pub memory_write : command.no_memory ≢ command.write_fault
  pub read_write : command.read_fault ≢ command.write_fault
