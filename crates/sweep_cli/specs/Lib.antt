pub mod ProgramStatuses
