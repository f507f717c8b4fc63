-- What is left of a command at work, and how its machine stands to its next request.
use Rattle.qfs_machine.specs.declared.machine.Readiness.{Readiness}
use Rattle.qfs_model_actor.specs.Work.{Work}
use Rattle.qfs_actor.specs.declared.command_machine.CommandMachine.{CommandMachine}
use Rattle.qfs_actor.specs.declared.command_machine.CommandMachine.TheVariants.{Put, Get}
use Rattle.qfs_reader.specs.ReaderState.{rest_of_reader}
use Rattle.qfs_writer.specs.WriterState.{rest_of_writer}

unfoldable pub rest_of_machine : CommandMachine → Work
rest_of_machine (Put writer) = rest_of_writer writer
rest_of_machine (Get reader) = rest_of_reader reader

unfoldable pub readiness_of : CommandMachine → Readiness
readiness_of (Put writer) = writer.readiness
readiness_of (Get reader) = reader.readiness
