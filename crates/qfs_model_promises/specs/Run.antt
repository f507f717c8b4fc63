-- The runs that the statements speak of, and what is promised of each of them. A promise stands here as a statement alone, and is
-- to be shown by whoever cites it.
use Rattle.std.specs.Prelude.{List, IsTrue}
use Rattle.qfs_base.specs.declared.history.Step.{Step}
use Rattle.qfs_base.specs.declared.script.Script.{Script}
use Rattle.qfs_model_script.specs.InScript.{IsScript}
use Rattle.qfs_model_world.specs.Deletion.{NoDeletion}
use Rattle.qfs_model_world.specs.EveryGet.{EveryGet}
use Rattle.qfs_model_world.specs.Fits.{fits}
use Rattle.qfs_model_world.specs.Headline.{IsShort}
use Rattle.qfs_model_world.specs.Reports.{OneFileHistory}
use Rattle.qfs_model_promises.specs.Complete.{CommandsSucceed}
use Rattle.qfs_model_promises.specs.FailedServers.{DestinationsFail, SourcesFail}
use Rattle.qfs_model_promises.specs.Gone.{GoneIsVanished}
use Rattle.qfs_model_promises.specs.HeardSteps.{HeardIn}
use Rattle.qfs_model_promises.specs.LeftBehind.{NothingLeftBehind}
use Rattle.qfs_model_promises.specs.Letters.{LettersTellLives}
use Rattle.qfs_model_promises.specs.Never.{NeverIn}
use Rattle.qfs_model_promises.specs.NoServer.{ServersAreTold, NoServerInPuts, NoServerInRepairs}
use Rattle.qfs_model_promises.specs.Redundancy.{BlocksAreRedundant}
use Rattle.qfs_model_promises.specs.SoundWorld.{IsSoundWorld}
use Rattle.qfs_model_promises.specs.TooFew.{TooFewInGets, TooFewInRecoveries}
use Rattle.qfs_model_promises.specs.Tries.{TriesSuffice}

-- a run: a script within its ranges and limits, and a short order that fits it
pub record IsRun (script : Script) (order : List Step) : Type 0 where
  pub script_is : IsScript script
  pub fitting : IsTrue (fits script order)
  pub short : IsShort order

-- this holds of every run
abbrev pub HoldsOfRuns : (Script → List Step → Type 0) → Type 0
HoldsOfRuns P = (script : Script) (order : List Step) → IsRun script order → P script order

-- every run leaves a sound world
abbrev pub WorldsAreSound : Type 0
WorldsAreSound = HoldsOfRuns IsSoundWorld

-- what actors heard is what the steps say
abbrev pub HeardIsSteps : Type 0
HeardIsSteps = HoldsOfRuns HeardIn

-- every run has one file history, which all replies agree with
abbrev pub HistoriesAgree : Type 0
HistoriesAgree = HoldsOfRuns OneFileHistory

-- in every run, gets that are served well read right, and need no more attempts than they may make
abbrev pub GetsReadRight : Type 0
GetsReadRight = HoldsOfRuns EveryGet

abbrev pub GetsNeedFewTries : Type 0
GetsNeedFewTries = HoldsOfRuns TriesSuffice

-- in no run is the current copy of a standing chunk deleted
abbrev pub CurrentCopiesStay : Type 0
CurrentCopiesStay = HoldsOfRuns NoDeletion

-- in no run is an actor told what it is never told
abbrev pub NeverIsNever : Type 0
NeverIsNever = HoldsOfRuns NeverIn

-- the failures of commands have their causes
pub record CausesAreTold (script : Script) (order : List Step) : Type 0 where
  pub few_in_gets : TooFewInGets script order
  pub few_in_recoveries : TooFewInRecoveries script order
  pub no_server : ServersAreTold script order
  pub no_server_in_puts : NoServerInPuts script order
  pub no_server_in_repairs : NoServerInRepairs script order
  pub destinations : DestinationsFail script order
  pub sources : SourcesFail script order
  pub gone : GoneIsVanished script order

abbrev pub FailuresHaveCauses : Type 0
FailuresHaveCauses = HoldsOfRuns CausesAreTold

-- commands in whose way nothing stands succeed
abbrev pub CommandsAreComplete : Type 0
CommandsAreComplete = HoldsOfRuns CommandsSucceed

-- the letters of an audit tell lives, blocks are redundant, and runs leave nothing behind
abbrev pub AuditsTellLives : Type 0
AuditsTellLives = HoldsOfRuns LettersTellLives

abbrev pub FilesAreRedundant : Type 0
FilesAreRedundant = HoldsOfRuns BlocksAreRedundant

abbrev pub RunsLeaveNothing : Type 0
RunsLeaveNothing = HoldsOfRuns NothingLeftBehind
