pub mod ServedReports
